-- The line that a rule is of: its own number, or the first line whose rules end after it. Assumes nothing.
use mathlib.Core.Path.{◌≡◌, refl, sym, ap, subst, ◌∙◌}
use mathlib.Core.Bool.{Bool, true, false, cond}
use mathlib.Core.List.{List}
use Prim.Native.Nat.{ℕ, zero, suc, ◌<◌, ◌≤◌}
use native.Mathlib.Omega.{arith}
use lib.ListN.{length, get_or, take}
use Rattle.std.proofs.Common.{nat_lt, Option, Some, None}
use Rattle.std.specs.List.{position, position_or_len}
use Rattle.std.specs.Option.{unwrap_or}
use Rattle.std.proofs.lemmas.Bool.{ltb-true, ltb-false}
use Rattle.std.proofs.lemmas.List.{get_or-take}
use Rattle.std.proofs.lemmas.List.Sums.{fails_before_first, passes_at_first}
use Rattle.syntax.specs.Trees.{Definition}
use Rattle.syntax.specs.Needs.{needs}
use Rattle.syntax.specs.RuleLines.{first_helper, own, helper}
use Rattle.syntax.proofs.RuleLines.{helpers_end}
use Rattle.reader.specs.Code.Lines.{LinesKept, RuleOfLine}

pub owner_own : (lines : ℕ) (ends : List ℕ) (rule : ℕ) → rule < lines → RuleOfLine lines ends rule rule
owner_own lines ends rule h ds kept below = own (omega (arith, kept.count))

-- A HELPER RULE
module _ (lines : ℕ) (ends : List ℕ) (rule : ℕ) (helps : lines ≤ rule) (size : length (take lines ends) ≡ lines) where
  abbrev after : ℕ → Bool
  after e = nat_lt rule e

  abbrev kept_ends : List ℕ
  kept_ends = take lines ends

  abbrev first : ℕ
  first = position_or_len after kept_ends

  -- the rules of the lines before the first end before it
  past : (j : ℕ) → j < first → j < lines → get_or ends j 0 ≤ rule
  past j h l = ltb-false rule (get_or ends j 0) (sym (ap after (get_or-take lines ends j 0 l)) ∙ fails_before_first after kept_ends j 0 h)

  -- so the helper rules of the first line don't begin after it
  begins : (k : ℕ) → k ≤ first → k ≤ lines → (ds : List Definition) → LinesKept ds lines ends → first_helper ds k ≤ rule
  unfolding first_helper needs
  begins zero le few ds kept = omega (arith, kept.count)
  begins (suc j) le few ds kept = omega (arith, past j (omega arith) (omega arith), kept.ends j (omega (arith, kept.count)))

  found : first < lines → RuleOfLine lines ends rule first
  found h ds kept below =
      let here : first < length ds = omega (arith, kept.count) in
      let last : rule < get_or ends first 0 =
      ltb-true rule (get_or ends first 0)
      (sym (ap after (get_or-take lines ends first 0 h)) ∙ passes_at_first after kept_ends 0 (subst (λ (n : ℕ). first < n) (sym size) h))
      in
      helper here (begins first (omega arith) (omega arith) ds kept) (omega (arith, kept.ends first here))

  -- and some line's rules end after it
  ended : lines ≤ first → RuleOfLine lines ends rule lines
  ended h ds kept below =
      let last : lines ≡ length ds = kept.count in
      absurd (omega (arith, begins lines h (omega arith) ds kept, ap (first_helper ds) last, helpers_end ds))

  pub owner_found : (r : Option ℕ) (line : ℕ) → r ≡ position after kept_ends → line ≡ unwrap_or r lines → RuleOfLine lines ends rule line
  owner_found r line is by =
      let all : line ≡ unwrap_or (cond (nat_lt first (length kept_ends)) (Some first) None) lines = by ∙ ap (λ (o : Option ℕ). unwrap_or o lines) is in
      go (nat_lt first (length kept_ends)) refl all
    where
      go : (b : Bool) → nat_lt first (length kept_ends) ≡ b → line ≡ unwrap_or (cond b (Some first) None) lines → RuleOfLine lines ends rule line
      go true e same = subst (λ (n : ℕ). RuleOfLine lines ends rule n) (sym same) (found (omega (arith, ltb-true first (length kept_ends) e, size)))
      go false e same = subst (λ (n : ℕ). RuleOfLine lines ends rule n) (sym same) (ended (omega (arith, ltb-false first (length kept_ends) e, size)))
