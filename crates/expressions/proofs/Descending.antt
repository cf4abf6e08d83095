-- Reading level by level: what each function of the descent answers, from what its callees answer. Assumes nothing.
use mathlib.Core.Path.{◌≡◌, refl, sym, ap, subst, ◌∙◌}
use mathlib.Core.Bool.{Bool, true, false}
use mathlib.Core.List.{List, []}
use Prim.Native.Nat.{ℕ, suc, ◌+◌, ◌-◌, ◌<◌, ◌≤◌}
use native.Mathlib.Nat.{pos_of_ne-zero}
use native.Mathlib.Omega.{arith}
use lib.Dec.{eqb}
use borrow.Author.Tests.{le-leb, lt-leb, leb-true, leb-false, eqb-true, eqb-false}
use Rattle.grammar.specs.Grammar.{max_rules}
use Rattle.grammar.specs.declared.Expression.{Expression}
use Rattle.syntax.specs.declared.Node.TheVariants.{Operator}
use Rattle.syntax.specs.Tokens.{Token}
use Rattle.syntax.specs.Trees.{Tree, Level, Derives}
use Rattle.syntax.specs.Needs.{need}
use Rattle.syntax.specs.Compile.{own_rules, compile, place, owed}
use Rattle.syntax.specs.Code.Heads.{heads}
use Rattle.syntax.proofs.Counting.{placed_need}
use Rattle.expressions.specs.declared.Rules.{Rules}
use Rattle.expressions.specs.Code.Building.{advanced}
use Rattle.expressions.specs.Code.Operators.{Begun, Part, part, placed_rules, placed_number, begun_of}
use Rattle.scanner.specs.Code.Scanning.{tokens_at}
use Rattle.expressions.specs.Code.Levels.{Room, Stops, ReadsTo, PartRight, Spent}
use Rattle.expressions.proofs.Emitting.{advanced_next, advanced_left}
use Rattle.expressions.proofs.Operating.{next_placed}
use Rattle.expressions.proofs.Placing.{Joins, pair_reads, placed_rules_is}
use Rattle.expressions.proofs.Deriving.{Two, Parted, alone, two}

-- IT FITS, OR NOT
pub not_fit : (text : List ℕ) (before : Rules) (e : Tree) (us : List Token) (r : Part) → r.fits ≡ false → before.left < need e → PartRight text before e us r
not_fit text before e us r f h = record { fits = f ∙ sym (lt-leb _ _ h); reads = λ le. absurd (omega arith) }

pub does_fit : (text : List ℕ) (before : Rules) (e : Tree) (us : List Token) (r : Part) → r.fits ≡ true → need e ≤ before.left → ReadsTo text before e us r → PartRight text before e us r
does_fit text before e us r f h reads = record { fits = f ∙ sym (le-leb _ _ h); reads = λ le. reads }

pub unfit : (text : List ℕ) (before : Rules) (e : Tree) (us : List Token) (r : Part) → PartRight text before e us r → r.fits ≡ false → before.left < need e
unfit text before e us r p f = leb-false _ _ (sym p.fits ∙ f)

pub fit : (text : List ℕ) (before : Rules) (e : Tree) (us : List Token) (r : Part) → PartRight text before e us r → r.fits ≡ true → need e ≤ before.left
fit text before e us r p f = leb-true _ _ (sym p.fits ∙ f)

pub read_left : (text : List ℕ) (before : Rules) (e : Tree) (us : List Token) (r : Part) → ReadsTo text before e us r → r.rules.left ≡ before.left - need e
read_left text before e us r reads = advanced_left _ _ _ _ reads.rules

-- THE FIRST PART OF TWO
pub begun_false : (x : Part) (h : Begun) → h ≡ begun_of x → h.fits ≡ false → x.rules.left ≡ 0
unfolding begun_of
begun_false x h e f = go (eqb x.rules.left 0) refl
  where
    go : (b : Bool) → eqb x.rules.left 0 ≡ b → x.rules.left ≡ 0
    go true g = eqb-true _ _ g
    go false g = absurd (let z : ◌≡◌ {A = ℕ} 0 1 = cc (ap (λ (b : Begun). b.fits) (simp g at e)) in omega arith)

pub record IsBegun (x : Part) (h : Begun) : Type 0 where
  pub some : x.rules.left ≡ 0 → ⊥
  pub number : h.number ≡ placed_number x.node (advanced x.rules [] 1)
  pub rules : h.rules ≡ placed_rules x.node (advanced x.rules [] 1)

pub begun_true : (x : Part) (h : Begun) → h ≡ begun_of x → h.fits ≡ true → IsBegun x h
unfolding begun_of
begun_true x h e f = go (eqb x.rules.left 0) refl
  where
    go : (b : Bool) → eqb x.rules.left 0 ≡ b → IsBegun x h
    go true g = absurd (let z : ◌≡◌ {A = ℕ} 0 1 = cc (ap (λ (b : Begun). b.fits) (simp g at e)) in omega arith)
    go false g =
        record {
          some = eqb-false _ _ g;
          number = ap (λ (b : Begun). b.number) (simp g at e);
          rules = ap (λ (b : Begun). b.rules) (simp g at e);
        }

-- the room for the second part, with the first placed and one rule taken
pub begun_room :
    (text : List ℕ) (before : Rules) (e : Tree) (us : List Token) (x : Part) (h : Begun) → Room text before → ReadsTo text before e us x →
    need e ≤ before.left → IsBegun x h → (h.rules.next + h.rules.left ≤ max_rules) × (h.rules.left + (need e + 1) ≡ before.left)
begun_room text before e us x h room reads le b =
    let all : h.rules ≡ advanced before (place (compile (heads text) e before.next) before.next).helpers (need e + 1) =
    b.rules ∙ placed_rules_is before x.rules (compile (heads text) e before.next) x.node (need e) 1 reads.rules reads.node
    in
    let left : h.rules.left ≡ before.left - (need e + 1) = advanced_left _ _ _ _ all in
    let next : h.rules.next ≡ before.next + need e =
    advanced_next _ _ _ _ all ∙ ap (λ (n : ℕ). before.next + n) (placed_need (heads text) e before.next)
    in
    let some : 0 < before.left - need e = pos_of_ne-zero (λ z. b.some (read_left text before e us x reads ∙ z)) in
    (omega (arith, room.fit), omega arith)

-- WHAT TWO PARTS HAVE SPENT, whatever the tokens are
pub begun_spent :
    (before : Rules) (x : Part) (h : Begun) → Spent before 0 x → IsBegun x h →
    (h.rules.next + h.rules.left + 1 ≤ before.next + before.left) × (h.rules.left < before.left)
begun_spent before x h p b =
    let t : Rules = advanced x.rules [] 1 in
    let some = pos_of_ne-zero b.some in
    let next_t : t.next ≡ x.rules.next + 0 = advanced_next x.rules t [] 1 refl in
    let left_t : t.left ≡ x.rules.left - 1 = advanced_left x.rules t [] 1 refl in
    let next_h : h.rules.next ≡ t.next + owed x.node = next_placed x.node t h.rules b.rules in
    let left_h : h.rules.left ≡ t.left - 0 = advanced_left t h.rules (own_rules x.node t.next) 0 b.rules in
    (omega (arith, p.room), omega (arith, p.left))

pub pair_spent :
    (before : Rules) (x y : Part) (h : Begun) (at : ℕ) (z : Expression) → Spent before 0 x → IsBegun x h → Spent h.rules 0 y →
    Spent before 0 (part at (Operator z) (placed_rules y.node y.rules))
unfolding owed
pair_spent before x y h at z p b q =
    let (room, less) = begun_spent before x h p b in
    let t : Rules = placed_rules y.node y.rules in
    let next_t : t.next ≡ y.rules.next + owed y.node = next_placed y.node y.rules t refl in
    let left_t : t.left ≡ y.rules.left - 0 = advanced_left y.rules t (own_rules y.node y.rules.next) 0 refl in
    record { room = omega (arith, q.room); left = omega (arith, q.left) }

-- the room for the second part's own rule
pub last_room :
    (before : Rules) (x y : Part) (h : Begun) → Spent before 0 x → IsBegun x h → Spent h.rules 0 y → before.next + before.left ≤ suc max_rules →
    y.rules.next + owed y.node ≤ max_rules
last_room before x y h p b q room =
    let (some, less) = begun_spent before x h p b in
    omega (arith, q.room)

-- TWO LEVELS: an inner one, and the outer one that joins two parts. From what the inner one answers for a first part, and the outer one for the rest
module _ (text : List ℕ) (inner outer : Level) (follows : List Token → List Token → Type 0) (join : Tree → Tree → Tree) (rule : ℕ → ℕ → Expression)
    (joins : Joins (heads text) join rule) (d : ℕ) (ts : List Token)
    (parted : (e : Tree) (us : List Token) → Derives outer d ts e us → Stops outer us → Parted inner outer follows join d ts e us)
    (before : Rules) (first : Part)
    (read : (e : Tree) (us : List Token) → Derives inner d ts e us → Stops inner us → PartRight text before e us first) where
  abbrev Outer : Part → Type 0
  Outer r = (e : Tree) (us : List Token) → Derives outer d ts e us → Stops outer us → PartRight text before e us r

  -- the sum is more than was left
  too_many : (e f : Tree) (n : ℕ) → n ≤ need e + 1 + need f → before.left < n → before.left < need (join e f)
  too_many e f n le lt = omega (arith, joins.needed e f)

  joined_right : {e g f : Tree} {us : List Token} {r : Part} → e ≡ join g f → PartRight text before (join g f) us r → PartRight text before e us r
  joined_right {us = us} {r} t p = subst (λ (x : Tree). PartRight text before x us r) (sym t) p

  -- the first part does not fit
  pub first_over : first.fits ≡ false → Outer first
  first_over f e us x s = go (parted e us x s)
    where
      go : Parted inner outer follows join d ts e us → PartRight text before e us first
      go (alone y t n) = read e us y t
      go (two w) =
          let h = unfit text before w.one w.mid first (read w.one w.mid w.first w.stops) f in
          joined_right w.tree (not_fit text before _ us first f (too_many w.one w.other (need w.one) (omega arith) h))

  module _ (fits : first.fits ≡ true) where
    -- no second part follows
    pub first_alone : ((rest : List Token) → follows (tokens_at text first.at) rest → ⊥) → Outer first
    first_alone nothing e us x s = go (parted e us x s)
      where
        go : Parted inner outer follows join d ts e us → PartRight text before e us first
        go (alone y t n) = read e us y t
        go (two w) =
            let p = read w.one w.mid w.first w.stops in
            let q = p.reads (fit text before w.one w.mid first p fits) in
            absurd (nothing w.rest (subst (λ (m : List Token). follows m w.rest) (sym q.rest) w.between))

    -- one follows
    module _ (next : List Token) (more : follows (tokens_at text first.at) next) (one_rest : (m a b : List Token) → follows m a → follows m b → a ≡ b) where
      -- a derivation has two parts, then
      second : {e : Tree} {us : List Token} → Parted inner outer follows join d ts e us → Two inner outer follows join d ts e us
      second {e} {us} (alone y t n) =
          let p = read e us y t in
          let q = p.reads (fit text before e us first p fits) in
          absurd (n next (subst (λ (m : List Token). follows m next) q.rest more))
      second (two w) = w

      first_of : {e : Tree} {us : List Token} (w : Two inner outer follows join d ts e us) →
          (need w.one ≤ before.left) × ReadsTo text before w.one w.mid first × (w.rest ≡ next)
      first_of w =
          let p = read w.one w.mid w.first w.stops in
          let le = fit text before w.one w.mid first p fits in
          (le, p.reads le, one_rest (tokens_at text first.at) w.rest next (subst (λ (m : List Token). follows m w.rest) (sym (p.reads le).rest) w.between) more)

      -- but no rule is left for the two
      pub none_left : (r : Part) → first.rules.left ≡ 0 → r.fits ≡ false → Outer r
      none_left r z f e us x s =
          let w = second (parted e us x s) in
          let (le, reads, same) = first_of w in
          let gone : before.left - need w.one ≡ 0 = sym (read_left text before w.one w.mid first reads) ∙ z in
          joined_right w.tree (not_fit text before _ us r f (too_many w.one w.other (need w.one + 1) (omega arith) (omega arith)))

      module _ (room : Room text before) (h : Begun) (b : IsBegun first h) (rest : Part)
          (later : (e : Tree) (us : List Token) → Derives outer d next e us → Stops outer us → PartRight text h.rules e us rest) where
        later_of : {e : Tree} {us : List Token} (w : Two inner outer follows join d ts e us) → Stops outer us → PartRight text h.rules w.other us rest
        later_of {us = us} w s = later w.other us (subst (λ (m : List Token). Derives outer d m w.other us) (first_of w).2 w.second) s

        -- the rest does not fit
        pub rest_over : rest.fits ≡ false → Outer rest
        rest_over f e us x s =
            let w = second (parted e us x s) in
            let (le, reads, same) = first_of w in
            let lt = unfit text h.rules w.other us rest (later_of w s) f in
            let (fits_in, left) = begun_room text before w.one w.mid first h room reads le b in
            joined_right w.tree (not_fit text before _ us rest f (too_many w.one w.other (need w.one + 1 + need w.other) (omega arith) (omega arith)))

        -- both fit
        pub both_fit : rest.fits ≡ true →
            Outer (part rest.at (Operator (rule h.number (placed_number rest.node rest.rules))) (placed_rules rest.node rest.rules))
        both_fit f e us x s =
            let w = second (parted e us x s) in
            let (le, reads, same) = first_of w in
            let p = later_of w s in
            let le_two = fit text h.rules w.other us rest p f in
            let (fits_in, left) = begun_room text before w.one w.mid first h room reads le b in
            let y : ReadsTo text (placed_rules first.node (advanced first.rules [] 1)) w.other us rest =
            subst (λ (r : Rules). ReadsTo text r w.other us rest) b.rules (p.reads le_two)
            in
            let made = pair_reads text join rule joins before w.one w.other w.mid us first rest reads y in
            let result = subst (λ (n : ℕ). ReadsTo text before (join w.one w.other) us
            (part rest.at (Operator (rule n (placed_number rest.node rest.rules))) (placed_rules rest.node rest.rules))) (sym b.number) made in
            joined_right w.tree (does_fit text before _ us _ refl (omega (arith, joins.needed w.one w.other)) result)
