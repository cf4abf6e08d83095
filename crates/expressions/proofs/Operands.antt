-- Reading a part, its suffixes and its operand: what each function answers, from what its callees answer. Assumes nothing.
use mathlib.Core.Path.{◌≡◌, refl, sym, ap, subst, ◌∙◌}
use mathlib.Core.Bool.{Bool, true, false}
use mathlib.Core.List.{List, [], ◌∷◌, ◌++◌}
use Prim.Native.Nat.{ℕ, suc, ◌+◌, ◌-◌, ◌<◌, ◌≤◌}
use native.Mathlib.Omega.{arith}
use lib.Dec.{ltb}
use borrow.Author.Tests.{ltb-true, ltb-false}
use Rattle.grammar.specs.Grammar.{max_rules}
use Rattle.grammar.specs.declared.Expression.TheVariants.{Not, Empty}
use Rattle.syntax.specs.declared.Prefix.{Prefix}
use Rattle.syntax.specs.declared.Prefix.TheVariants.{NotPredicate, AndPredicate}
use Rattle.syntax.specs.declared.Suffix.{Suffix}
use Rattle.syntax.specs.declared.Suffix.TheVariants.{ZeroOrMore, OneOrMore, Optional}
use Rattle.syntax.specs.declared.Sign.TheVariants.{Before, After}
use Rattle.syntax.specs.Tokens.{Token, sign}
use Rattle.syntax.specs.Trees.{Tree, prefixed, suffixed, prefixes, suffixes, operand, Derives, no_prefix, a_prefix}
use Rattle.syntax.specs.Needs.{need, prefix_need, suffix_need}
use Rattle.syntax.specs.Compile.{repetition_rules, own_rules, owed}
use Rattle.expressions.specs.declared.Rules.{Rules}
use Rattle.expressions.specs.Code.Building.{advanced}
use Rattle.expressions.specs.Code.Operators.{Part, over, PrefixRoom, placed_rules, placed_number, prefix_by, prefix_made, suffix_made, suffix_done}
use Rattle.scanner.specs.Code.Scanning.{tokens_at}
use Rattle.expressions.specs.Code.Levels.{by_sign, suffix_sign, is_suffix, Stops, ReadsTo, PartRight, LevelRight, suffixed_all, suffix_tokens, SuffixesRight, Room, Spent}
use Rattle.expressions.proofs.Lookings.{clash}
use Rattle.expressions.proofs.Emitting.{advanced_next, advanced_left}
use Rattle.expressions.proofs.Operating.{next_placed, suffix_some}
use Rattle.expressions.proofs.Placing.{suffix_reads, prefix_reads}
use Rattle.expressions.proofs.Deriving.{stops_operand, stops_suffixes, operand_of, suffixes_prefix}
use Rattle.expressions.proofs.Descending.{not_fit, does_fit, unfit, fit, read_left}

prefix_fits : (q : Prefix) (x : Part) → (prefix_made q x).fits ≡ true
unfolding prefix_made prefix_by
prefix_fits NotPredicate x = refl
prefix_fits AndPredicate x = refl

-- SUFFIXES need more and more rules
more_needed : (ss : List Suffix) (e : Tree) → need e ≤ need (suffixed_all ss e)
unfolding suffixed_all need
more_needed [] e = omega arith
more_needed (s ∷ ss) e = omega (arith, more_needed ss (suffixed s e))

-- none follows
pub suffixes_none :
    (text : List ℕ) (x : Part) → ((t : Token) (us : List Token) → tokens_at text x.at ≡ t ∷ us → is_suffix t ≡ false) → SuffixesRight text x x
unfolding suffixed_all by_sign suffix_sign
suffixes_none text x none before e [] us fits le reads s = does_fit text before e us x fits le reads
suffixes_none text x none before e (y ∷ ss) us fits le reads s = clash (cc (none _ _ reads.rest))

-- one follows: it is the first of those that the derivation has
next_suffix :
    (text : List ℕ) (x : Part) (y : Suffix) (next : ℕ) (ss : List Suffix) (us : List Token) → tokens_at text x.at ≡ sign (After y) ∷ tokens_at text next →
    tokens_at text x.at ≡ suffix_tokens ss ++ us → Stops suffixes us →
    (later : List Suffix) × (ss ≡ y ∷ later) × (tokens_at text next ≡ suffix_tokens later ++ us)
unfolding Stops by_sign suffix_sign
next_suffix text x y next [] [] f g s = clash (cc)
next_suffix text x y next [] (t ∷ us) f g s =
    let is : t ≡ sign (After y) = cc in
    clash (cc)
next_suffix text x y next (z ∷ ss) us f g s = (ss, cc, cc)

done_fits : (s : Suffix) (m : ℕ) (r : Rules) (at : ℕ) → (suffix_done s m r at).fits ≡ true
unfolding suffix_done
done_fits ZeroOrMore m r at = refl
done_fits OneOrMore m r at = refl
done_fits Optional m r at = refl

abbrev done_over : Part → Suffix → (next : ℕ) → Part
done_over x y next =
    suffix_done y (placed_number x.node (advanced x.rules [] (suffix_need y))) (placed_rules x.node (advanced x.rules [] (suffix_need y))) next

made_over : (x : Part) (y : Suffix) (next : ℕ) → (suffix_made y x next).fits ≡ false → x.rules.left < suffix_need y
unfolding suffix_made
made_over x y next f = go (ltb x.rules.left (suffix_need y)) refl
  where
    go : (b : Bool) → ltb x.rules.left (suffix_need y) ≡ b → x.rules.left < suffix_need y
    go true g = ltb-true x.rules.left (suffix_need y) g
    go false g = clash (cc (simp g at f, done_fits y (placed_number x.node (advanced x.rules [] (suffix_need y))) (placed_rules x.node (advanced x.rules [] (suffix_need y))) next))

made_done : (x : Part) (y : Suffix) (next : ℕ) → (suffix_made y x next).fits ≡ true → (suffix_need y ≤ x.rules.left) × (suffix_made y x next ≡ done_over x y next)
unfolding suffix_made
made_done x y next f = go (ltb x.rules.left (suffix_need y)) refl
  where
    go : (b : Bool) → ltb x.rules.left (suffix_need y) ≡ b → (suffix_need y ≤ x.rules.left) × (suffix_made y x next ≡ done_over x y next)
    go true g = clash (cc (simp g at f))
    go false g = (ltb-false x.rules.left (suffix_need y) g, simp g)

module _ (text : List ℕ) (x : Part) (y : Suffix) (next : ℕ) (f : tokens_at text x.at ≡ sign (After y) ∷ tokens_at text next) (more : Part)
    (made : more ≡ suffix_made y x next) where
  -- too few rules are left for it
  pub suffixes_over : more.fits ≡ false → SuffixesRight text x more
  unfolding suffixed_all need
  suffixes_over over before e ss us fits le reads s =
      let (later, is, rest) = next_suffix text x y next ss us f reads.rest s in
      let lt = made_over x y next (sym (ap (λ (p : Part). p.fits) made) ∙ over) in
      let gone = read_left text before e _ x reads in
      let needed : need (suffixed y e) ≤ need (suffixed_all ss e) = subst (λ (zs : List Suffix). need (suffixed y e) ≤ need (suffixed_all zs e)) (sym is) (more_needed later (suffixed y e)) in
      not_fit text before (suffixed_all ss e) us more over (omega arith)

  -- or the others are read after it
  pub suffixes_on : more.fits ≡ true → (r : Part) → SuffixesRight text more r → SuffixesRight text x r
  unfolding suffixed_all need
  suffixes_on yes_fits r on before e ss us fits le reads s =
      let (later, is, rest) = next_suffix text x y next ss us f reads.rest s in
      let (room, done) = made_done x y next (sym (ap (λ (p : Part). p.fits) made) ∙ yes_fits) in
      let gone = read_left text before e _ x reads in
      let read : ReadsTo text before (suffixed y e) (suffix_tokens later ++ us) more =
      subst (λ (p : Part). ReadsTo text before (suffixed y e) (suffix_tokens later ++ us) p) (sym (made ∙ done)) (suffix_reads text before e _ _ x y next reads rest)
      in
      let all = on before (suffixed y e) later us yes_fits (omega arith) read s in
      subst (λ (zs : List Suffix). PartRight text before (suffixed_all zs e) us r) (sym is) all

-- what a suffix leaves
done_left : (s : Suffix) (m : ℕ) (r : Rules) (at : ℕ) → (suffix_done s m r at).rules.left ≤ r.left
unfolding suffix_done
done_left ZeroOrMore m r at = omega arith
done_left OneOrMore m r at = omega (arith, advanced_left r _ (repetition_rules m r.next) 0 refl)
done_left Optional m r at = omega (arith, advanced_left r _ (Empty ∷ []) 0 refl)

-- the room that a suffix leaves
done_room :
    (s : Suffix) (m : ℕ) (r : Rules) (at : ℕ) →
    (suffix_done s m r at).rules.next + (suffix_done s m r at).rules.left + owed (suffix_done s m r at).node ≤ r.next + r.left + suffix_need s
unfolding suffix_done suffix_need owed
done_room ZeroOrMore m r at = omega arith
done_room OneOrMore m r at = omega (arith, advanced_next r _ (repetition_rules m r.next) 0 refl, advanced_left r _ (repetition_rules m r.next) 0 refl)
done_room Optional m r at = omega (arith, advanced_next r _ (Empty ∷ []) 0 refl, advanced_left r _ (Empty ∷ []) 0 refl)

-- a suffix takes some rules, and gives as many to its expression
pub suffix_spent :
    (x : Part) (y : Suffix) (next : ℕ) (more : Part) → more ≡ suffix_made y x next → more.fits ≡ true →
    Spent x.rules (owed x.node) more × (more.rules.left < x.rules.left)
suffix_spent x y next more made fits =
    let (enough, done) = made_done x y next (sym (ap (λ (p : Part). p.fits) made) ∙ fits) in
    let k = suffix_need y in
    let t : Rules = advanced x.rules [] k in
    let r : Rules = placed_rules x.node t in
    let m : ℕ = placed_number x.node t in
    let next_t : t.next ≡ x.rules.next + 0 = advanced_next x.rules t [] k refl in
    let left_t : t.left ≡ x.rules.left - k = advanced_left x.rules t [] k refl in
    let next_r : r.next ≡ t.next + owed x.node = next_placed x.node t r refl in
    let left_r : r.left ≡ t.left - 0 = advanced_left t r (own_rules x.node t.next) 0 refl in
    let less : (suffix_done y m r next).rules.left < x.rules.left = omega (arith, suffix_some y, done_left y m r next) in
    let spent : Spent x.rules (owed x.node) (suffix_done y m r next) =
    record { room = omega (arith, done_room y m r next); left = omega arith }
    in
    subst (λ (p : Part). Spent x.rules (owed x.node) p × (p.rules.left < x.rules.left)) (sym (made ∙ done)) (spent, less)

pub suffixes_spent : (x more r : Part) → Spent x.rules (owed x.node) more → Spent more.rules (owed more.node) r → Spent x.rules (owed x.node) r
suffixes_spent x more r p q = record { room = omega (arith, p.room, q.room); left = omega (arith, p.left, q.left) }

pub spent_itself : (x : Part) → Spent x.rules (owed x.node) x
spent_itself x = record { room = omega arith; left = omega arith }

-- A PART: the operand, then its suffixes
module _ (text : List ℕ) (at d : ℕ) (before : Rules) (none : (q : Prefix) (us : List Token) → tokens_at text at ≡ sign (Before q) ∷ us → ⊥) (x : Part)
    (read : LevelRight operand text at d before x) where
  unprefixed : {ts : List Token} {e : Tree} {us : List Token} → tokens_at text at ≡ ts → Derives prefixes d ts e us → Derives suffixes d ts e us
  unprefixed is (no_prefix y) = y
  unprefixed is (a_prefix y) = absurd (none _ _ is)

  pub part_over : x.fits ≡ false → LevelRight prefixes text at d before x
  part_over over e us y s =
      let o = operand_of (unprefixed refl y) in
      let h = unfit text before o.tree _ x (read o.tree _ o.derived (stops_operand _)) over in
      not_fit text before e us x over
      (omega (arith, subst (λ (g : Tree). need o.tree ≤ need g) (sym o.is) (more_needed o.suffixes_after o.tree)))

  pub part_suffixed : x.fits ≡ true → (r : Part) → SuffixesRight text x r → LevelRight prefixes text at d before r
  part_suffixed yes_fits r on e us y s =
      let o = operand_of (unprefixed refl y) in
      let p = read o.tree _ o.derived (stops_operand _) in
      let le = fit text before o.tree _ x p yes_fits in
      subst (λ (g : Tree). PartRight text before g us r) (sym o.is) (on before o.tree o.suffixes_after us yes_fits le (p.reads le) (stops_suffixes us s))

-- A PREFIX, then a part
module _ (text : List ℕ) (at d : ℕ) (before : Rules) (q : Prefix) (next : ℕ) (f : tokens_at text at ≡ sign (Before q) ∷ tokens_at text next) where
  after_prefix :
      {ts : List Token} {e : Tree} {us : List Token} → tokens_at text at ≡ ts → Derives prefixes d ts e us →
      (g : Tree) × (e ≡ prefixed q g) × Derives prefixes d (tokens_at text next) g us
  after_prefix is (no_prefix y) = absurd (suffixes_prefix y q (tokens_at text next) (sym is ∙ f))
  after_prefix {us = us} is (a_prefix {ts = ws} {e = g} {p = p} y) =
      let same : p ≡ q = cc in
      let rest : ws ≡ tokens_at text next = cc in
      (g, ap (λ (z : Prefix). prefixed z g) same, subst (λ (zs : List Token). Derives prefixes d zs g us) rest y)

  pub prefix_over : (r : Part) → before.left < prefix_need q → r.fits ≡ false → LevelRight prefixes text at d before r
  unfolding need
  prefix_over r lt over e us y s =
      let (g, is, z) = after_prefix refl y in
      subst (λ (h : Tree). PartRight text before h us r) (sym is) (not_fit text before (prefixed q g) us r over (omega arith))

  module _ (less : Rules) (took : less ≡ advanced before [] (prefix_need q)) (enough : prefix_need q ≤ before.left) (x : Part)
      (read : LevelRight prefixes text next d less x) where
    left_is : less.left ≡ before.left - prefix_need q
    left_is = advanced_left before less [] (prefix_need q) took

    pub prefixed_over : x.fits ≡ false → LevelRight prefixes text at d before x
    unfolding need
    prefixed_over over e us y s =
        let (g, is, z) = after_prefix refl y in
        let h = unfit text less g us x (read g us z s) over in
        subst (λ (t : Tree). PartRight text before t us x) (sym is) (not_fit text before (prefixed q g) us x over (omega (arith, left_is)))

    pub prefixed_fits : x.fits ≡ true → (r : Part) → r ≡ prefix_made q x → LevelRight prefixes text at d before r
    unfolding need
    prefixed_fits yes_fits r made e us y s =
        let (g, is, z) = after_prefix refl y in
        let p = read g us z s in
        let le = fit text less g us x p yes_fits in
        let reads = prefix_reads text before less g us x q took (p.reads le) in
        let right = does_fit text before (prefixed q g) us (prefix_made q x) (prefix_fits q x) (omega (arith, left_is)) reads in
        subst (λ (t : Tree). PartRight text before t us r) (sym is) (subst (λ (w : Part). PartRight text before (prefixed q g) us w) (sym made) right)

-- WHAT A PART HAS SPENT
pub part_spent : (before : Rules) (x r : Part) → Spent before 0 x → Spent x.rules (owed x.node) r → Spent before 0 r
part_spent before x r p q = record { room = omega (arith, p.room, q.room); left = omega (arith, p.left, q.left) }

prefix_room_of : (q : Prefix) (m : ℕ) (r : Rules) (at : ℕ) →
    ((prefix_by q m r at).rules.next + owed (prefix_by q m r at).node ≡ r.next + prefix_need q) × ((prefix_by q m r at).rules.left ≤ r.left)
unfolding prefix_by prefix_need owed
prefix_room_of NotPredicate m r at = (refl, omega arith)
prefix_room_of AndPredicate m r at =
    (omega (arith, advanced_next r _ (Not m ∷ []) 0 refl), omega (arith, advanced_left r _ (Not m ∷ []) 0 refl))

pub prefix_spent :
    (before less : Rules) (q : Prefix) (x r : Part) → less ≡ advanced before [] (prefix_need q) → prefix_need q ≤ before.left → Spent less 0 x →
    r ≡ prefix_made q x → Spent before 0 r
unfolding prefix_made
prefix_spent before less q x r took enough p made =
    let t : Rules = placed_rules x.node x.rules in
    let m : ℕ = placed_number x.node x.rules in
    let next_t : t.next ≡ x.rules.next + owed x.node = next_placed x.node x.rules t refl in
    let left_t : t.left ≡ x.rules.left - 0 = advanced_left x.rules t (own_rules x.node x.rules.next) 0 refl in
    let next_less : less.next ≡ before.next + 0 = advanced_next before less [] (prefix_need q) took in
    let left_less : less.left ≡ before.left - prefix_need q = advanced_left before less [] (prefix_need q) took in
    let (sum, fewer) = prefix_room_of q m t x.at in
    subst (λ (w : Part). Spent before 0 w) (sym made) (record { room = omega (arith, p.room); left = omega (arith, p.left) })

-- the room for a prefix over a part that was read
pub prefix_room :
    (before less : Rules) (q : Prefix) (x : Part) → less ≡ advanced before [] (prefix_need q) → prefix_need q ≤ before.left → Spent less 0 x →
    before.next + before.left ≤ suc max_rules → PrefixRoom q x
prefix_room before less q x took enough p room =
    omega (arith, p.room, advanced_next before less [] (prefix_need q) took, advanced_left before less [] (prefix_need q) took)

pub less_room :
    (text : List ℕ) (before less : Rules) (k : ℕ) → less ≡ advanced before [] k → 0 < k → k ≤ before.left → Room text before → Room text less × (less.left < before.left)
less_room text before less k took some enough room = (
  record { few = room.few; fit = omega (arith, room.fit, advanced_next before less [] k took, advanced_left before less [] k took) },
  omega (arith, advanced_left before less [] k took),
)
