-- `image::lookup::class_under` meets its contract: the left marker, a byte, the right marker. Assumes nothing.
use mathlib.Core.Path.{◌≡◌, sym, ap, ◌∙◌}
use mathlib.Core.Bool.{true}
use mathlib.Core.List.{List}
use lib.Dec.{ltb}
use lib.ListN.{length, get_or}
use Rattle.std.proofs.lemmas.List.{get_or_default}
use Prim.Native.Nat.{ℕ, ◌+◌, ◌-◌}
use native.Mathlib.Omega.{arith}
use borrow.Author.Tests.{ltb-true, ltb-false}
use Rattle.codec.specs.Bytes.{byte}
use Rattle.image.specs.Format
use Rattle.image.proofs.Lookups.{kept_classes}
use Rattle.image.proofs.Rules.{good, class_left, class_byte, class_right}
use Rattle.image.proofs.lookup.class_under.Goals as goal

-- the byte that was got
got_byte : (cs : List ℕ) (i b : ℕ) → true ≡ ltb i (length cs) → b ≡ get_or cs i b → b ≡ byte cs i
got_byte cs i b there e = e ∙ get_or_default cs i b 0 (ltb-true _ _ (sym there))

pub returns-then-head-eq0 : goal.returns-then-head-eq0
returns-then-head-eq0 c = kept_classes _ _ c.requires.counts ∙ sym (class_left _ _ _ c.if-head-eq0.true)

pub bounds-image-from : goal.bounds-image-from
bounds-image-from c =
    omega (arith, c.from.ensures, got_byte _ _ _ c.in-Some.ensures.lookup.0 c.in-Some.ensures.lookup.1, c.requires.unrefused.bytes (c.args.head - 1), (good c.requires.unrefused).long)

pub overflow_add-result : goal.overflow_add-result
overflow_add-result c =
    omega (arith, kept_classes _ _ c.requires.counts, (good c.requires.unrefused).classes_most)

pub returns-in-Some : goal.returns-in-Some
returns-in-Some c =
    c.from-in-Some.ensures ∙ ap (λ (b : ℕ). byte c.args.image.now (Format.map_offset + b)) (c.from.ensures ∙ got_byte _ _ _ c.in-Some.ensures.lookup.0 c.in-Some.ensures.lookup.1)
    ∙ sym (class_byte _ _ _ c.if-head-eq0.false (ltb-true _ _ (sym c.in-Some.ensures.lookup.0)))

pub returns-in-None : goal.returns-in-None
returns-in-None c =
    ap (λ (k : ℕ). k + 1) (kept_classes _ _ c.requires.counts)
    ∙ sym (class_right _ _ _ c.if-head-eq0.false (ltb-false _ _ (sym c.in-None.ensures.lookup.0)))
