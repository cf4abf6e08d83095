-- What stood in the lent cells before does not matter where a capture of the bundle writes: slices of the same lengths end with the same cells there. Assumes nothing.
use mathlib.Core.Path.{◌≡◌, refl, sym, ap, ◌∙◌, subst}
use mathlib.Core.List.{List}
use Prim.Native.Nat.{ℕ, suc, ◌+◌, ◌-◌, ◌<◌, ◌≤◌}
use native.Mathlib.Decide.{ℕ_discrete, dec_lt}
use native.Mathlib.Omega.{arith}
use lib.ListN.{length, get_or, take, drop}
use lib.Seq.{get_or-take, get_or-drop}
use Rattle.machine.specs.Run.{how_many}
use Rattle.image.specs.Image.{machine}
use Rattle.simulator.specs.Answers.{Judged}
use Rattle.simulator.specs.Calls.{judge_refusal, JudgeSays}
use Rattle.simulator.proofs.Answered.{judged_refused, later_kept}
use Rattle.simulator.proofs.Determined.{judge_independent}
use Rattle.bundle.specs.Answers.{Report}
use Rattle.bundle.specs.Format.{count, capture, call_refusal}
use Rattle.bundle.specs.Calls.{InOrder, done, next, BundleSays}
use Rattle.simulator.proofs.LengthsKept.{lengths_kept}
use Rattle.bundle.proofs.BundleSaid.{bundle_judged}

-- two lists agree in a cell
abbrev Same : (j : ℕ) → (x x' : List ℕ) → Type 0
Same j x x' = get_or x j 0 ≡ get_or x' j 0

same_first : (n j : ℕ) (x x' : List ℕ) → take n x ≡ take n x' → j < n → Same j x x'
same_first n j x x' e h = sym (get_or-take n x j 0 h) ∙ ap (λ (l : List ℕ). get_or l j 0) e ∙ get_or-take n x' j 0 h

same_later : (n j : ℕ) (x a : List ℕ) → drop n x ≡ drop n a → n ≤ j → Same j x a
same_later n j x a e h =
    let there : n + (j - n) ≡ j = omega (arith, h) in
    rw (← there) (sym (get_or-drop n x (j - n) 0) ∙ ap (λ (l : List ℕ). get_or l (j - n) 0) e ∙ get_or-drop n a (j - n) 0)

-- first cells that are the same, and later ones as they were
same_now :
    (n j : ℕ) (a x a' x' : List ℕ) → take n x ≡ take n x' → drop n x ≡ drop n a → drop n x' ≡ drop n a' → Same j a a' → Same j x x'
same_now n j a x a' x' first later later' before = go (dec_lt j n)
  where
    go : Dec (j < n) → Same j x x'
    go (yes h) = same_first n j x x' first h
    go (no k) =
        let le : n ≤ j = omega (arith, k) in
        same_later n j x a later le ∙ before ∙ sym (same_later n j x' a' later' le)

-- ONE CAPTURE: where it writes the cells are the same, and where they were the same they stay so
module _
    (bs cs a b a' b' : List ℕ) (r s : Judged) (x y x' y' : List ℕ) (p : length a ≡ length a') (q : length b ≡ length b')
    (f : JudgeSays bs cs r a x b y) (g : JudgeSays bs cs s a' x' b' y')
  where
    judged_writes :
        (judge_refusal bs cs (length a) (length b)).number ≡ 0 → (j : ℕ) → j < how_many (machine bs cs) → Same j x x' × Same j y y'
    judged_writes e j h =
        let same = (judge_independent bs cs a b a' b' r s x y x' y' p q f g).1 e in
        (same_first (how_many (machine bs cs)) j x x' same.0 h, same_first (how_many (machine bs cs)) j y y' same.1 h)

    judged_keeps : (j : ℕ) → Same j a a' × Same j b b' → Same j x x' × Same j y y'
    judged_keeps j before = go (ℕ_discrete (judge_refusal bs cs (length a) (length b)).number 0)
      where
        go : Dec ((judge_refusal bs cs (length a) (length b)).number ≡ 0) → Same j x x' × Same j y y'
        go (yes e) =
            let same = (judge_independent bs cs a b a' b' r s x y x' y' p q f g).1 e in
            let here = later_kept bs cs r a x b y f in
            let there = later_kept bs cs s a' x' b' y' g in (
              same_now (how_many (machine bs cs)) j a x a' x' same.0 here.0 there.0 before.0,
              same_now (how_many (machine bs cs)) j b y b' y' same.1 here.1 there.1 before.1,
            )
        go (no n) =
            let refusals : judge_refusal bs cs (length a') (length b') ≡ judge_refusal bs cs (length a) (length b) = rw (p, q) refl in
            let here = judged_refused bs cs r a x b y n f in
            let there = judged_refused bs cs s a' x' b' y' (λ z. n (rw refusals at z)) g in
            (rw (here.1, there.1) before.0, rw (here.2, there.2) before.1)

-- CAPTURES IN ORDER
order_keeps :
    (bs xs : List ℕ) (i k : ℕ) (rs qs : List Judged) (a x b y a' x' b' y' : List ℕ) → i ≡ k → length a ≡ length a' → length b ≡ length b' →
    InOrder bs xs i rs a x b y → InOrder bs xs k qs a' x' b' y' → (j : ℕ) → Same j a a' × Same j b b' → Same j x x' × Same j y y'
order_keeps bs xs i k rs qs a x b y a' x' b' y' e p q done done j before = before
order_keeps bs xs i k rs qs a x b y a' x' b' y' e p q done (next h s g) j before = absurd (omega (arith, e, h))
order_keeps bs xs i k rs qs a x b y a' x' b' y' e p q (next h s f) done j before = absurd (omega (arith, e, h))
order_keeps bs xs i k rs qs a x b y a' x' b' y' e p q (next {a_then} {b_then} {r} {rs = rs'} h s f) (next {a_then = c} {b_then = d} {r = r'} {rs = qs'} m t g) j before =
    let t' = subst (λ (n : ℕ). JudgeSays bs (capture xs n) r' a' c b' d) (sym e) t in
    let kept = lengths_kept bs (capture xs i) r a a_then b b_then s in
    let kept' = lengths_kept bs (capture xs i) r' a' c b' d t' in
    order_keeps bs xs (suc i) (suc k) rs' qs' a_then x b_then y c x' d y' (ap suc e) (kept.0 ∙ p ∙ sym kept'.0) (kept.1 ∙ q ∙ sym kept'.1) f g j
    (judged_keeps bs (capture xs i) a b a' b' r r' a_then b_then c d p q s t' j before)

order_writes :
    (bs xs : List ℕ) (i k : ℕ) (rs qs : List Judged) (a x b y a' x' b' y' : List ℕ) → i ≡ k → length a ≡ length a' → length b ≡ length b' →
    InOrder bs xs i rs a x b y → InOrder bs xs k qs a' x' b' y' → (n : ℕ) → i ≤ n → n < count xs →
    (judge_refusal bs (capture xs n) (length a) (length b)).number ≡ 0 → (j : ℕ) → j < how_many (machine bs (capture xs n)) →
    Same j x x' × Same j y y'
order_writes bs xs i k rs qs a x b y a' x' b' y' e p q done o n le h z j w = absurd (omega (arith, le, h))
order_writes bs xs i k rs qs a x b y a' x' b' y' e p q (next l s f) done n le h z j w = absurd (omega (arith, e, l))
order_writes bs xs i k rs qs a x b y a' x' b' y' e p q (next {a_then} {b_then} {r} {rs = rs'} l s f) (next {a_then = c} {b_then = d} {r = r'} {rs = qs'} m t g) n le h z j w =
    let t' = subst (λ (n : ℕ). JudgeSays bs (capture xs n) r' a' c b' d) (sym e) t in
    let kept = lengths_kept bs (capture xs i) r a a_then b b_then s in
    let kept' = lengths_kept bs (capture xs i) r' a' c b' d t' in
    let p' : length a_then ≡ length c = kept.0 ∙ p ∙ sym kept'.0 in
    let q' : length b_then ≡ length d = kept.1 ∙ q ∙ sym kept'.1 in
    go (ℕ_discrete i n)
    (λ here.
    order_keeps bs xs (suc i) (suc k) rs' qs' a_then x b_then y c x' d y' (ap suc e) p' q' f g j
    (judged_writes bs (capture xs i) a b a' b' r r' a_then b_then c d p q s t' (rw here z) j (rw here w)))
    (λ later.
    order_writes bs xs (suc i) (suc k) rs' qs' a_then x b_then y c x' d y' (ap suc e) p' q' f g n (omega (arith, le, later)) h (rw (kept.0, kept.1) z) j w)
  where
    go : Dec (i ≡ n) → (i ≡ n → Same j x x' × Same j y y') → ((i ≡ n → ⊥) → Same j x x' × Same j y y') → Same j x x' × Same j y y'
    go (yes here) at_it after = at_it here
    go (no later) at_it after = after later

pub bundle_cells_independent :
    (bs xs : List ℕ) (r s : Report) (l m l' m' a x a' x' b y b' y' : List ℕ) → length a ≡ length a' → length b ≡ length b' →
    BundleSays bs xs r l m a x b y → BundleSays bs xs s l' m' a' x' b' y' → (call_refusal bs xs).number ≡ 0 → (i : ℕ) → i < count xs →
    (judge_refusal bs (capture xs i) (length a) (length b)).number ≡ 0 → (j : ℕ) → j < how_many (machine bs (capture xs i)) →
    (get_or x j 0 ≡ get_or x' j 0) × (get_or y j 0 ≡ get_or y' j 0)
bundle_cells_independent bs xs r s l m l' m' a x a' x' b y b' y' p q f g e i h z j w =
    let f' = bundle_judged bs xs r l m a x b y e f in
    let g' = bundle_judged bs xs s l' m' a' x' b' y' e g in
    order_writes bs xs 0 0 f'.lines g'.lines a x b y a' x' b' y' refl p q f'.judged g'.judged i (omega arith) h z j w
