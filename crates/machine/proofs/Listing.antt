-- The list of the configurations entered, each once, made of the notes: in the order of their numbers, those whose note is not 0. Assumes nothing.
use mathlib.Core.Path.{◌≡◌, refl, sym, subst, ◌∙◌, ap}
use mathlib.Core.List.Memᴰ
use mathlib.Core.List.{List, [], ◌∷◌, map, Memᴰ}
use mathlib.Core.Logic.{◌⊎◌, inl, inr}
use Prim.Native.Nat.{ℕ, zero, suc, ◌+◌, ◌<◌, ◌≤◌}
use native.Mathlib.Nat.{zero-add, add-zero}
use native.Mathlib.Omega.{arith}
use lib.Dec.{eqb-suc-zero}
use lib.ListN.{length, get_or}
use Rattle.machine.specs.declared.Config.{Config}
use Rattle.machine.specs.Run.{Machine, ValidConfig, number, how_many}
use Rattle.machine.specs.Verdicts.{Entered, Noted, nonzero, Distinct, nil, cons, AllEntered}
use Rattle.machine.proofs.Numbers.{config_at, config_at_there, number_config_at, config_at_number, number_below, number_injective}
use Rattle.machine.proofs.RightNotes.{note_entered, entered_note}
use Rattle.machine.proofs.Pigeonhole.{length_at_most}

-- of the first so many notes, the first of them that of number k, the configurations whose note is not 0
unfoldable pub listed : Machine → (k count : ℕ) → (notes : List ℕ) → List Config
listed M k zero ns = []
listed M k (suc m) [] = []
listed M k (suc m) (zero ∷ ns) = listed M (suc k) m ns
listed M k (suc m) (suc v ∷ ns) = config_at M k ∷ listed M (suc k) m ns

-- c is the configuration of a note that is not 0
record Found (M : Machine) (k count : ℕ) (notes : List ℕ) (c : Config) : Type 0 where
  index : ℕ
  below : index < count
  kept : get_or notes index 0 ≡ 0 → ⊥
  is : c ≡ config_at M (k + index)

module _ (M : Machine) where
  listed_length : (k count : ℕ) (ns : List ℕ) → length (listed M k count ns) ≡ nonzero count ns
  unfolding listed nonzero
  listed_length k zero ns = refl
  listed_length k (suc m) [] = refl
  listed_length k (suc m) (zero ∷ ns) = listed_length (suc k) m ns ∙ sym (zero-add (nonzero m ns))
  listed_length k (suc m) (suc v ∷ ns) = rw (eqb-suc-zero v) (omega (arith, listed_length (suc k) m ns))

  found_later : (k m : ℕ) (n : ℕ) (ns : List ℕ) (c : Config) → Found M (suc k) m ns c → Found M k (suc m) (n ∷ ns) c
  found_later k m n ns c f =
      record {
        index = suc f.index;
        below = omega (arith, f.below);
        kept = f.kept;
        is = f.is ∙ ap (config_at M) (omega arith);
      }

  listed_found : (k count : ℕ) (ns : List ℕ) (c : Config) → Memᴰ c (listed M k count ns) → Found M k count ns c
  unfolding listed
  listed_found k zero ns c a = absurd (Memᴰ.not-nil a)
  listed_found k (suc m) [] c a = absurd (Memᴰ.not-nil a)
  listed_found k (suc m) (zero ∷ ns) c a = found_later k m zero ns c (listed_found (suc k) m ns c a)
  listed_found k (suc m) (suc v ∷ ns) c a = go (λ b. listed_found (suc k) m ns c b) (Memᴰ.cases_cons a)
    where
      go :
          (Memᴰ c (listed M (suc k) m ns) → Found M (suc k) m ns c) →
          (c ≡ config_at M k) ⊎ Memᴰ c (listed M (suc k) m ns) → Found M k (suc m) (suc v ∷ ns) c
      go rest (inl e) =
          record { index = 0; below = omega arith; kept = λ z. omega arith; is = e ∙ ap (config_at M) (sym (add-zero k)) }
      go rest (inr b) = found_later k m (suc v) ns c (rest b)

  found_listed :
      (k count : ℕ) (ns : List ℕ) (i : ℕ) → i < count → (get_or ns i 0 ≡ 0 → ⊥) →
      Memᴰ (config_at M (k + i)) (listed M k count ns)
  unfolding listed
  found_listed k zero ns i below kept = absurd (omega arith)
  found_listed k (suc m) [] i below kept = absurd (kept refl)
  found_listed k (suc m) (zero ∷ ns) zero below kept = absurd (kept refl)
  found_listed k (suc m) (suc v ∷ ns) zero below kept = Memᴰ.head (ap (config_at M) (add-zero k))
  found_listed k (suc m) (zero ∷ ns) (suc i) below kept =
      Memᴰ.cast (ap (config_at M) (omega arith)) (found_listed (suc k) m ns i (omega arith) kept)
  found_listed k (suc m) (suc v ∷ ns) (suc i) below kept =
      Memᴰ.tail (Memᴰ.cast (ap (config_at M) (omega arith)) (found_listed (suc k) m ns i (omega arith) kept))

  -- later ones have greater numbers
  not_later : (k m : ℕ) (ns : List ℕ) → Found M (suc k) m ns (config_at M k) → ⊥
  not_later k m ns f =
      let same : k ≡ suc k + f.index = sym (number_config_at M k) ∙ ap (number M) f.is ∙ number_config_at M (suc k + f.index) in
      omega arith

  listed_distinct : (k count : ℕ) (ns : List ℕ) → Distinct (listed M k count ns)
  unfolding listed
  listed_distinct k zero ns = nil
  listed_distinct k (suc m) [] = nil
  listed_distinct k (suc m) (zero ∷ ns) = listed_distinct (suc k) m ns
  listed_distinct k (suc m) (suc v ∷ ns) =
      cons (λ a. not_later k m ns (listed_found (suc k) m ns (config_at M k) a)) (listed_distinct (suc k) m ns)

-- THE LIST, as long as the count of notes that are not 0
pub all_entered :
    (M : Machine) (notes : List ℕ) → Noted M notes → ((c : Config) → Entered M c → ValidConfig M c) →
    AllEntered M (nonzero (how_many M) notes)
all_entered M notes noted there =
    record {
      configs = listed M 0 (how_many M) notes;
      distinct = listed_distinct M 0 (how_many M) notes;
      only = λ c a. only c (listed_found M 0 (how_many M) notes c a);
      all = λ c e. all c e (there c e);
      counted = listed_length M 0 (how_many M) notes;
    }
  where
    only : (c : Config) → Found M 0 (how_many M) notes c → Entered M c
    only c f =
        let k = f.index in
        let same : config_at M k ≡ c = sym (f.is ∙ ap (config_at M) (zero-add k)) in
        let kept : get_or notes (number M (config_at M k)) 0 ≡ 0 → ⊥ = rw (number_config_at M k) f.kept in
        subst (Entered M) same (note_entered (noted (config_at M k) (config_at_there M k f.below)) kept)

    all : (c : Config) → Entered M c → ValidConfig M c → Memᴰ c (listed M 0 (how_many M) notes)
    all c e t =
        Memᴰ.cast (sym (ap (config_at M) (zero-add (number M c)) ∙ config_at_number t))
        (found_listed M 0 (how_many M) notes (number M c) (number_below t) (entered_note (noted c t) e))

-- ONE COUNT: two lists without repeats of exactly the configurations entered are equally long
mapped : {A : Type 0} (f : A → ℕ) {a : A} {rest : List A} → Memᴰ a rest → Memᴰ (f a) (map f rest)
mapped f (Memᴰ.head e) = Memᴰ.head (ap f e)
mapped f (Memᴰ.tail b) = Memᴰ.tail (mapped f b)

mapped_length : {A : Type 0} (f : A → ℕ) (rest : List A) → length (map f rest) ≡ length rest
mapped_length f [] = refl
mapped_length f (a ∷ rest) = ap suc (mapped_length f rest)

module _ (M : Machine) (there : (c : Config) → Entered M c → ValidConfig M c) where
  no_more : {n m : ℕ} → AllEntered M n → AllEntered M m → n ≤ m
  no_more x y =
      let most =
      length_at_most (number M) x.configs x.distinct (map (number M) y.configs)
      (λ c a. mapped (number M) (y.all c (x.only c a)))
      (λ c d a b e. number_injective (there c (x.only c a)) (there d (x.only d b)) e)
      in
      omega (arith, mapped_length (number M) y.configs, x.counted, y.counted)

  pub one_count : {n m : ℕ} → AllEntered M n → AllEntered M m → n ≡ m
  one_count x y = let l = no_more x y in let g = no_more y x in omega arith
