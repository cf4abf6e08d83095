-- What the call's contract comes to where it reports, and where it refuses. Assumes nothing.
use Rattle.std.specs.Prelude.{Err}
use mathlib.Core.Path.{◌≡◌, refl, ap}
use mathlib.Core.List.{List}
use Prim.Native.Nat.{ℕ, zero, suc}
use native.Mathlib.Omega.{arith}
use Rattle.refusal.specs.declared.Refusal.{Refusal}
use Rattle.bundle.specs.Answers.{Report}
use Rattle.bundle.specs.Answers as answers
use Rattle.bundle.specs.declared.Totals.{Totals}
use Rattle.bundle.specs.declared.Lines.{Lines}
use Rattle.bundle.specs.Format.{call_refusal}
use Rattle.bundle.specs.Calls.{BundleJudged, BundleAs, BundleSays}

judged_as :
    (k : ℕ) (f : Refusal) (bs xs : List ℕ) (r : Report) (l m a x b y : List ℕ) → k ≡ 0 → BundleAs k f bs xs r l m a x b y →
    BundleJudged bs xs r l m a x b y
unfolding BundleAs
judged_as zero f bs xs r l m a x b y e s = s
judged_as (suc k) f bs xs r l m a x b y e s = absurd (omega arith)

-- not refused, it reports
pub bundle_judged :
    (bs xs : List ℕ) (r : Report) (l m a x b y : List ℕ) → (call_refusal bs xs).number ≡ 0 → BundleSays bs xs r l m a x b y →
    BundleJudged bs xs r l m a x b y
unfolding BundleSays
bundle_judged bs xs r l m a x b y e s = judged_as (call_refusal bs xs).number (call_refusal bs xs) bs xs r l m a x b y e s

refused_as :
    (k : ℕ) (f : Refusal) (bs xs : List ℕ) (r : Report) (l m a x b y : List ℕ) → (k ≡ 0 → ⊥) → BundleAs k f bs xs r l m a x b y →
    (r ≡ Err f) × (m ≡ l) × (x ≡ a) × (y ≡ b)
unfolding BundleAs
refused_as zero f bs xs r l m a x b y e s = absurd (e refl)
refused_as (suc k) f bs xs r l m a x b y e s = s

-- refused, the refusal is given, and no line or cell changes
pub bundle_refused :
    (bs xs : List ℕ) (r : Report) (l m a x b y : List ℕ) → ((call_refusal bs xs).number ≡ 0 → ⊥) → BundleSays bs xs r l m a x b y →
    (r ≡ Err (call_refusal bs xs)) × (m ≡ l) × (x ≡ a) × (y ≡ b)
unfolding BundleSays
bundle_refused bs xs r l m a x b y e s = refused_as (call_refusal bs xs).number (call_refusal bs xs) bs xs r l m a x b y e s

abbrev lines_of : ℕ → Totals → Lines
lines_of n t = record { count = n; totals = t }

-- a report comes of a call that is not refused
reported_as :
    (k : ℕ) (f : Refusal) (bs xs : List ℕ) (n : ℕ) (t : Totals) (l m a x b y : List ℕ) → BundleAs k f bs xs (answers.lines n t) l m a x b y → k ≡ 0
unfolding BundleAs
reported_as zero f bs xs n t l m a x b y s = refl
reported_as (suc k) f bs xs n t l m a x b y s =
    let clash : answers.lines n t ≡ Err f = s.0 in
    absurd (let z : ◌≡◌ {A = ℕ} 0 1 = cc in omega arith)

pub reported_fine :
    (bs xs : List ℕ) (n : ℕ) (t : Totals) (l m a x b y : List ℕ) → BundleSays bs xs (answers.lines n t) l m a x b y →
    (call_refusal bs xs).number ≡ 0
unfolding BundleSays
reported_fine bs xs n t l m a x b y s =
    reported_as (call_refusal bs xs).number (call_refusal bs xs) bs xs n t l m a x b y s

-- and says what it says
pub reported :
    (bs xs : List ℕ) (n : ℕ) (t : Totals) (l m a x b y : List ℕ) → BundleSays bs xs (answers.lines n t) l m a x b y →
    BundleJudged bs xs (answers.lines n t) l m a x b y
reported bs xs n t l m a x b y s = bundle_judged bs xs (answers.lines n t) l m a x b y (reported_fine bs xs n t l m a x b y s) s

pub report_parts : (n k : ℕ) (t u : Totals) → answers.lines n t ≡ answers.lines k u → (n ≡ k) × (t ≡ u)
report_parts n k t u e =
    let same : lines_of n t ≡ lines_of k u = cc in
    (ap (λ (r : Lines). r.count) same, ap (λ (r : Lines). r.totals) same)
