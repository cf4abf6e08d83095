-- What the check of a text for left recursion answers follows from the text. Assumes nothing.
use mathlib.Core.Path.{◌≡◌, refl, sym, ap, subst, ◌∙◌}
use mathlib.Core.List.{List}
use Prim.Native.Nat.{ℕ}
use native.Mathlib.Omega.{arith}
use Rattle.refusal.specs.declared.Refusal.{Refusal}
use Rattle.refusal.specs.First.{refusal, no_refusal}
use Rattle.recursion.specs.Computed.{recursion_refusal}
use Rattle.syntax.specs.Trees.{Definition, LegalText}
use Rattle.syntax.specs.RuleLines.{LineOfRule, NameAt}
use Rattle.syntax.proofs.ReadingExact.{unambiguous}
use Rattle.syntax.proofs.RuleLines.{one_line}
use Rattle.std.specs.Prelude.{Err}
use Rattle.typed.specs.declared.left_recursion.RecursionFault.TheVariants.{Refused}
use Rattle.typed.specs.Recursion.{TextRecursion, TextRecursionSays, unread, passes, recursive}
use Rattle.typed.proofs.ReadRight.{one_grammar, one_refusal, not_both}

-- one rule has one offset
one_offset :
    {text : List ℕ} {ds es : List Definition} {k i j a b : ℕ} → LegalText text ds → LegalText text es → LineOfRule ds k i → LineOfRule es k j →
    NameAt text ds i a → NameAt text es j b → a ≡ b
one_offset {text} {ds} {es} {k} {i} {j} l m p q x y =
    let same : ds ≡ es = unambiguous _ _ ds es l.reads m.reads in
    let line : i ≡ j = one_line (subst (λ (fs : List Definition). LineOfRule fs k i) same p) q in
    x.begins ∙ rw line (sym y.begins)

-- the check of one grammar answers once
one_check : {gs hs : List ℕ} {f g : Refusal} → gs ≡ hs → recursion_refusal gs ≡ f → recursion_refusal hs ≡ g → f ≡ g
one_check e p q = sym p ∙ ap recursion_refusal e ∙ q

never_nineteen : {k : ℕ} {A : Type 0} → no_refusal ≡ refusal 19 k → A
never_nineteen e = let n : ◌≡◌ {A = ℕ} 0 19 = ap (λ (f : Refusal). f.number) e in absurd (omega arith)

pub text_recursion_determined :
    (text : List ℕ) (r s : TextRecursion) → TextRecursionSays text r → TextRecursionSays text s → r ≡ s
text_recursion_determined text r s (unread t) (unread u) = ap (λ (f : Refusal). Err (Refused f)) (one_refusal text _ _ t u)
text_recursion_determined text r s (unread t) (passes u e) = absurd (not_both text _ _ t u)
text_recursion_determined text r s (unread t) (recursive l u e p x) = absurd (not_both text _ _ t u)
text_recursion_determined text r s (passes t e) (unread u) = absurd (not_both text _ _ u t)
text_recursion_determined text r s (passes t e) (passes u f) = refl
text_recursion_determined text r s (passes t e) (recursive l u f p x) = never_nineteen (one_check (one_grammar text _ _ t u) e f)
text_recursion_determined text r s (recursive l t e p x) (unread u) = absurd (not_both text _ _ u t)
text_recursion_determined text r s (recursive l t e p x) (passes u f) = never_nineteen (one_check (one_grammar text _ _ u t) f e)
text_recursion_determined text r s (recursive {ds = ds} {k = k} {line = i} {offset = a} l t e p x) (recursive {ds = es} {k = j} {line = h} {offset = b} m u f q y) =
    let same : k ≡ j = ap (λ (g : Refusal). g.place) (one_check (one_grammar text _ _ t u) e f) in
    let at : a ≡ b = one_offset l m (subst (λ (n : ℕ). LineOfRule ds n i) same p) q x y in
    cc
