-- From the machine's run to parsing: for any number of steps, a rule has a result, or the run of its entry is still on after them. Assumes only the table.
use mathlib.Core.Path.{◌≡◌, refl, ◌∙◌}
use mathlib.Core.Bool.{Bool, true, false, ◌&&◌}
use mathlib.Core.List.{List, ◌∷◌}
use mathlib.Core.Option.{Option, none, some}
use mathlib.Core.Logic.{◌⊎◌, inl, inr}
use Prim.Native.Nat.{ℕ, zero, suc, ◌+◌, ◌-◌, ◌<◌, ◌≤◌}
use native.Mathlib.Nat.{le_refl}
use native.Mathlib.Decide.{dec_le}
use native.Mathlib.Omega.{arith}
use lib.Dec.{ltb}
use lib.ListN.{length}
use borrow.Author.Tests.{ltb-true}
use Rattle.machine.specs.Run.{Machine, Entry, entry, Description, after, config}
use Rattle.codec.specs.Bytes.{byte}
use Rattle.machine.proofs.Runs.{after_zero, after_then, after_before, after_front, step_push}
use Rattle.grammar.specs.declared.Expression.{Expression}
use Rattle.grammar.specs.declared.Expression.TheVariants.{Sequence, Choice, Not, Empty, Range}
use Rattle.grammar.specs.Parsing.{Rules, in_range, Parses, sequence, sequence_fails, choice, choice_other, not_there, not_fails, empty, range, range_fails}
use Rattle.builder.specs.Table.{state_work, first, second}
use Rattle.parsing_theory.proofs.Table.{Table}
use Rattle.grammar.proofs.Bools.{both_true}
use Rattle.parsing_theory.proofs.TableRows.{sequence_parts, choice_parts, not_part, sequence_work, sequence_work_second, choice_work, choice_work_second, not_work}
use Rattle.parsing_theory.proofs.ParseRuns.{working, Came, Pushes, second_begins, sequence_turns, choice_turns, came}

-- from the work on rule k on, the run is on after n steps, whatever lies below
pub record Going (M : Machine) (n k i : ℕ) : Type 0 where
  pub goes : (f : Entry) (es : List Entry) → (x : Description) × (after n M (working k i (f ∷ es)) ≡ some x)

abbrev pub Known : Machine → Rules → List ℕ → (n k i : ℕ) → Type 0
Known M E cs n k i = ((o : Option ℕ) × Parses E cs k i o) ⊎ Going M n k i

going_zero : (M : Machine) (k i : ℕ) → Going M 0 k i
going_zero M k i = record { goes = λ f es. (working k i (f ∷ es), after_zero M (working k i (f ∷ es))) }

-- the entry of another rule is reached after s steps, on top of this one's
abbrev Leads : Machine → (s k i a b j : ℕ) → Type 0
Leads M s k i a b j =
    (f : Entry) (es : List Entry) → after s M (working k i (f ∷ es)) ≡ some (working b j (entry a (suc i) ∷ f ∷ es))

going_until : {M : Machine} {k i : ℕ} (a b j n s : ℕ) → n ≤ s → Leads M s k i a b j → Going M n k i
going_until {M} {k} {i} a b j n s l reach =
    record { goes = λ f es. after_before M n s (working k i (f ∷ es)) l (reach f es) }

going_later : {M : Machine} {k i b j : ℕ} (a s r : ℕ) → Leads M s k i a b j → Going M r b j → Going M (s + r) k i
going_later {M} {k} {i} {b} {j} a s r reach g = record { goes = go }
  where
    go : (f : Entry) (es : List Entry) → (x : Description) × (after (s + r) M (working k i (f ∷ es)) ≡ some x)
    go f es =
        let (x, e) = g.goes (entry a (suc i)) (f ∷ es) in
        (x, after_then M s r (working k i (f ∷ es)) (reach f es) ∙ e)

going_first : {M : Machine} {k i b : ℕ} (n : ℕ) → Pushes M i (first k) b → Going M n b i → Going M (suc n) k i
going_first {M} {k} {i} {b} n push g = record { goes = go }
  where
    go : (f : Entry) (es : List Entry) → (x : Description) × (after (suc n) M (working k i (f ∷ es)) ≡ some x)
    go f es =
        let (x, e) = g.goes (entry (first k) (suc i)) (f ∷ es) in
        (x, after_front M n (working k i (f ∷ es)) (step_push M (config state_work (suc i) (first k)) (suc i) (f ∷ es) push) ∙ e)

-- ONE ROUND of the induction on the number of steps, with the answers for fewer
abbrev Fewer : Machine → Rules → (m : ℕ) → List ℕ → (n : ℕ) → Type 0
Fewer M E m cs n = (r : ℕ) → r < n → (b j : ℕ) → b < m → j ≤ length cs → Known M E cs r b j

-- the other part is reached after s steps, and has the rest of n
then_asks :
    {M : Machine} {E : Rules} {cs : List ℕ} {k i : ℕ} (n s c j : ℕ) → Leads M s k i (second k) c j →
    ((o : Option ℕ) → Parses E cs c j o → Parses E cs k i o) → (s ≤ n → Known M E cs (n - s) c j) → Known M E cs n k i
then_asks {M} {E} {cs} {k} {i} n s c j reach builds rest = go (dec_le s n)
  where
    ends : s ≤ n → Known M E cs (n - s) c j → Known M E cs n k i
    ends l (inl (o, p)) = inl (o, builds o p)
    ends l (inr g) =
        let all : s + (n - s) ≡ n = omega arith in
        inr (rw all at (going_later (second k) s (n - s) reach g))

    go : Dec (s ≤ n) → Known M E cs n k i
    go (yes l) = ends l (rest l)
    go (no l) = inr (going_until (second k) c j n s (omega arith) reach)

module _ {M : Machine} {E : Rules} {m : ℕ} {cs : List ℕ} (t : Table M E m cs) (n : ℕ) (fewer : Fewer M E m cs (suc n))
    {k i : ℕ} (below : k < m) (here : i ≤ length cs) where
  when_sequence : {b c : ℕ} → E k ≡ Sequence b c → Known M E cs n b i → Known M E cs (suc n) k i
  when_sequence e (inr g) = inr (going_first n (sequence_work t below here e) g)
  when_sequence e (inl (none, p)) = inl (none, sequence_fails e p)
  when_sequence {b} {c} e (inl (some j, p)) =
      let w : Came M cs b i (some j) = came t (sequence_parts t below e).0 here p in
      let l : j ≤ length cs = w.ends.1 in
      let again = sequence_work_second t below l e in
      then_asks (suc n) (3 + w.steps) c j
      (second_begins k i c j (sequence_work t below here e) w (sequence_turns t below here j e l) again)
      (λ o q. sequence e p q) (λ s. fewer (suc n - (3 + w.steps)) (omega arith) c j (sequence_parts t below e).1 l)

  when_choice : {b c : ℕ} → E k ≡ Choice b c → Known M E cs n b i → Known M E cs (suc n) k i
  when_choice e (inr g) = inr (going_first n (choice_work t below here e) g)
  when_choice e (inl (some j, p)) = inl (some j, choice e p)
  when_choice {b} {c} e (inl (none, p)) =
      let w : Came M cs b i none = came t (choice_parts t below e).0 here p in
      let again = choice_work_second t below here e in
      then_asks (suc n) (3 + w.steps) c i
      (second_begins k i c i (choice_work t below here e) w (choice_turns t below here e) again)
      (λ o q. choice_other e p q) (λ s. fewer (suc n - (3 + w.steps)) (omega arith) c i (choice_parts t below e).1 here)

  when_not : {b : ℕ} → E k ≡ Not b → Known M E cs n b i → Known M E cs (suc n) k i
  when_not e (inr g) = inr (going_first n (not_work t below here e) g)
  when_not e (inl (none, p)) = inl (some i, not_there e p)
  when_not e (inl (some j, p)) = inl (none, not_fails e p)

  when_range :
      (b c : ℕ) → E k ≡ Range b c → (s : Bool) → (ltb i (length cs) && in_range b c (byte cs i)) ≡ s → Known M E cs (suc n) k i
  when_range b c e true h =
      let both = both_true (ltb i (length cs)) (in_range b c (byte cs i)) h in
      inl (some (suc i), range e (ltb-true i (length cs) both.0) both.1)
  when_range b c e false h = inl (none, range_fails e h)

  round : (x : Expression) → E k ≡ x → Known M E cs (suc n) k i
  round (Sequence b c) e = when_sequence e (fewer n (le_refl (suc n)) b i (sequence_parts t below e).0 here)
  round (Choice b c) e = when_choice e (fewer n (le_refl (suc n)) b i (choice_parts t below e).0 here)
  round (Not b) e = when_not e (fewer n (le_refl (suc n)) b i (not_part t below e) here)
  round Empty e = inl (some i, empty e)
  round (Range b c) e = when_range b c e (ltb i (length cs) && in_range b c (byte cs i)) refl

rounds :
    {M : Machine} {E : Rules} {m : ℕ} {cs : List ℕ} → Table M E m cs → (bound n : ℕ) → n < bound → (k i : ℕ) → k < m →
    i ≤ length cs → Known M E cs n k i
rounds t zero n l k i below here = absurd (omega arith)
rounds {M} t (suc bound) zero l k i below here = inr (going_zero M k i)
rounds {E = E} t (suc bound) (suc n) l k i below here =
    round t n (λ r q b j. rounds t bound r (omega arith) b j) below here (E k) refl

pub parses_or_goes :
    {M : Machine} {E : Rules} {m : ℕ} {cs : List ℕ} → Table M E m cs → (n k i : ℕ) → k < m → i ≤ length cs → Known M E cs n k i
parses_or_goes t n k i below here = rounds t (suc n) n (le_refl (suc n)) k i below here
