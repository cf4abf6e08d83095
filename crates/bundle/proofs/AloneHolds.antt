-- Captures judged in order are captures judged alone: the lines are those of each alone on the cells as they were lent, and the cells are a fold over what each writes. Assumes nothing.
use Rattle.std.specs.Prelude.{Err, Ok}
use mathlib.Core.Path.{◌≡◌, refl, sym, ap, ◌∙◌}
use mathlib.Core.List.{List, [], ◌∷◌, ◌++◌, map}
use Prim.Native.Nat.{ℕ, suc, ◌≤◌}
use native.Mathlib.Decide.{ℕ_discrete}
use native.Mathlib.Omega.{arith}
use lib.ListN.{length, take, drop, replicate, length-replicate}
use lib.Seq.{take_at}
use Rattle.refusal.specs.declared.Refusal.{Refusal}
use Rattle.machine.specs.Run.{how_many}
use Rattle.image.specs.Image.{machine}
use Rattle.simulator.specs.Answers.{Judged}
use Rattle.simulator.specs.declared.Judgement.{Judgement}
use Rattle.simulator.specs.Calls.{judge_refusal, JudgedRight, JudgeSays}
use Rattle.simulator.proofs.Answered.{judged_right, judged_refused}
use Rattle.simulator.proofs.JudgeRefusals.{as_refused, as_right}
use Rattle.simulator.proofs.Determined.{judge_determined}
use Rattle.bundle.specs.Format.{count, capture}
use Rattle.bundle.specs.Calls.{InOrder, done, next}
use Rattle.bundle.specs.Alone.{Alone, done as none_left, refused, answered, written_over}
use Rattle.simulator.proofs.LengthsKept.{lengths_kept}

-- ONE CAPTURE on the cells c and d, and alone on a and b
data Step (bs cs a b : List ℕ) (r : Judged) (c c_now d d_now : List ℕ) : Type 0 where
  step_refused :
      (f : Refusal) → r ≡ Err f → JudgeSays bs cs (Err f) a a b b → c_now ≡ c → d_now ≡ d → Step bs cs a b r c c_now d d_now
  step_answered :
      (j : Judgement) (ns b_now : List ℕ) → r ≡ Ok j → length ns ≡ how_many (machine bs cs) →
      JudgeSays bs cs (Ok j) a (ns ++ drop (length ns) a) b b_now → c_now ≡ ns ++ drop (length ns) c →
      d_now ≡ replicate (length ns) 0 ++ drop (length (replicate {A = ℕ} (length ns) 0)) d → Step bs cs a b r c c_now d d_now

step :
    (bs cs a b : List ℕ) (r : Judged) (c c_now d d_now : List ℕ) → length c ≡ length a → length d ≡ length b →
    JudgeSays bs cs r c c_now d d_now → Step bs cs a b r c c_now d d_now
unfolding JudgeSays
step bs cs a b r c c_now d d_now p q s = go (ℕ_discrete (judge_refusal bs cs (length c) (length d)).number 0)
  where
    same : judge_refusal bs cs (length c) (length d) ≡ judge_refusal bs cs (length a) (length b)
    same = rw (p, q) refl

    go : Dec ((judge_refusal bs cs (length c) (length d)).number ≡ 0) → Step bs cs a b r c c_now d d_now
    go (no n) =
        let f = judged_refused bs cs r c c_now d d_now n s in
        step_refused (judge_refusal bs cs (length a) (length b)) (f.0 ∙ ap Err same)
        (as_refused (judge_refusal bs cs (length a) (length b)).number (λ e. n (ap (λ (z : Refusal). z.number) same ∙ e)) bs cs a b refl)
        f.1 f.2
    go (yes e) =
        let f = judged_right bs cs r c c_now d d_now e s in
        let n = how_many (machine bs cs) in
        let ns = f.notes in
        let long : length ns ≡ n = f.right.noted_cells in
        let alone : JudgedRight bs cs (Ok f.judgement) a (ns ++ drop n a) b (f.work ++ drop n b) =
        record { judgement = f.judgement; notes = ns; work = f.work; answers = refl; right = f.right; notes_now = refl; work_now = refl }
        in
        let alone' : JudgedRight bs cs (Ok f.judgement) a (ns ++ drop (length ns) a) b (f.work ++ drop n b) = rw long alone in
        step_answered f.judgement ns (f.work ++ drop n b) f.answers long
        (as_right (judge_refusal bs cs (length a) (length b)).number (ap (λ (z : Refusal). z.number) (sym same) ∙ e) (judge_refusal bs cs (length a) (length b)) bs cs alone')
        (rw long f.notes_now) (rw (length-replicate {A = ℕ} (length ns) 0, long) (f.work_now ∙ ap (λ (w : List ℕ). w ++ drop n d) f.right.work_zero))

-- FROM CAPTURE i ON
record AloneFrom (bs xs a b : List ℕ) (i : ℕ) (rs : List Judged) (c c_now d d_now : List ℕ) : Type 0 where
  written : List (List ℕ)
  alone : Alone bs xs a b i rs written
  notes : c_now ≡ written_over written c
  work : d_now ≡ written_over (map (λ (ns : List ℕ). replicate (length ns) 0) written) d

alone_from :
    (bs xs a b : List ℕ) (i : ℕ) (rs : List Judged) (c c_now d d_now : List ℕ) → length c ≡ length a → length d ≡ length b →
    InOrder bs xs i rs c c_now d d_now → AloneFrom bs xs a b i rs c c_now d d_now
unfolding written_over
alone_from bs xs a b i rs c c_now d d_now p q done = record { written = []; alone = none_left; notes = refl; work = refl }
alone_from bs xs a b i rs c c_now d d_now p q (next {a_then = c'} {b_then = d'} {r = r} {rs = rs'} h s f) =
    let kept = lengths_kept bs (capture xs i) r c c' d d' s in
    go (step bs (capture xs i) a b r c c' d d' p q s)
    (alone_from bs xs a b (suc i) rs' c' c_now d' d_now (kept.0 ∙ p) (kept.1 ∙ q) f)
  where
    go :
        Step bs (capture xs i) a b r c c' d d' → AloneFrom bs xs a b (suc i) rs' c' c_now d' d_now →
        AloneFrom bs xs a b i (r ∷ rs') c c_now d d_now
    go (step_refused g e says u v) z =
        record {
          written = [] ∷ z.written;
          alone = rw e (refused says z.alone);
          notes = z.notes ∙ ap (written_over z.written) u;
          work = z.work ∙ ap (written_over (map (λ (ns : List ℕ). replicate (length ns) 0) z.written)) v;
        }
    go (step_answered j ns b_now e long says u v) z =
        record {
          written = ns ∷ z.written;
          alone = rw e (answered b_now long says z.alone);
          notes = z.notes ∙ ap (written_over z.written) u;
          work = z.work ∙ ap (written_over (map (λ (ns : List ℕ). replicate (length ns) 0) z.written)) v;
        }

-- THE ONLY SUCH
alone_below : (bs xs a b : List ℕ) (i : ℕ) (rs : List Judged) (ws : List (List ℕ)) → Alone bs xs a b i rs ws → i ≤ count xs
alone_below bs xs a b i rs ws none_left = omega arith
alone_below bs xs a b i rs ws (refused s z) = let rest = alone_below bs xs a b (suc i) _ _ z in omega (arith, rest)
alone_below bs xs a b i rs ws (answered y l s z) = let rest = alone_below bs xs a b (suc i) _ _ z in omega (arith, rest)

one_writing : (ns ms a : List ℕ) → length ns ≡ length ms → ns ++ drop (length ns) a ≡ ms ++ drop (length ms) a → ns ≡ ms
one_writing ns ms a l e =
    sym (take_at ns (drop (length ns) a) (length ms) l) ∙ ap (take (length ms)) e ∙ take_at ms (drop (length ms) a) (length ms) refl

one_alone :
    (bs xs a b : List ℕ) (i j : ℕ) (qs rs : List Judged) (us ws : List (List ℕ)) → i ≡ j → Alone bs xs a b i qs us →
    Alone bs xs a b j rs ws → (qs ≡ rs) × (us ≡ ws)
one_alone bs xs a b i j qs rs us ws e none_left none_left = (refl, refl)
one_alone bs xs a b i j qs rs us ws e none_left (refused s z) =
    let rest = alone_below bs xs a b (suc j) _ _ z in absurd (omega (arith, e, rest))
one_alone bs xs a b i j qs rs us ws e none_left (answered y l s z) =
    let rest = alone_below bs xs a b (suc j) _ _ z in absurd (omega (arith, e, rest))
one_alone bs xs a b i j qs rs us ws e (refused s z) none_left =
    let rest = alone_below bs xs a b (suc i) _ _ z in absurd (omega (arith, e, rest))
one_alone bs xs a b i j qs rs us ws e (answered y l s z) none_left =
    let rest = alone_below bs xs a b (suc i) _ _ z in absurd (omega (arith, e, rest))
one_alone bs xs a b i j qs rs us ws e (refused {f} {rs = qs'} {ws = us'} s z) (refused {f = g} {rs = rs'} {ws = ws'} t w) =
    let t' : JudgeSays bs (capture xs i) (Err g) a a b b = rw e t in
    let same : Err f ≡ Err g = (judge_determined bs (capture xs i) a b (Err f) (Err g) a b a b s t').0 in
    let rest = one_alone bs xs a b (suc i) (suc j) qs' rs' us' ws' (ap suc e) z w in
    (rw (same, rest.0) refl, rw rest.1 refl)
one_alone bs xs a b i j qs rs us ws e (refused {f} s z) (answered {j = k} {ns = ms} y l t w) =
    let t' : JudgeSays bs (capture xs i) (Ok k) a (ms ++ drop (length ms) a) b y = rw e t in
    let same : Err f ≡ Ok k = (judge_determined bs (capture xs i) a b (Err f) (Ok k) a b (ms ++ drop (length ms) a) y s t').0 in
    absurd (let z : ◌≡◌ {A = ℕ} 0 1 = cc in omega arith)
one_alone bs xs a b i j qs rs us ws e (answered {j = k} y l s z) (refused {f} t w) =
    let t' : JudgeSays bs (capture xs i) (Err f) a a b b = rw e t in
    let same : Ok k ≡ Err f = (judge_determined bs (capture xs i) a b (Ok k) (Err f) _ y a b s t').0 in
    absurd (let z : ◌≡◌ {A = ℕ} 0 1 = cc in omega arith)
one_alone bs xs a b i j qs rs us ws e (answered {j = k} {ns} {rs = qs'} {ws = us'} y l s z) (answered {j = k'} {ns = ms} {rs = rs'} {ws = ws'} y' l' t w) =
    let t' : JudgeSays bs (capture xs i) (Ok k') a (ms ++ drop (length ms) a) b y' = rw e t in
    let long : length ms ≡ how_many (machine bs (capture xs i)) = rw e l' in
    let same =
    judge_determined bs (capture xs i) a b (Ok k) (Ok k') (ns ++ drop (length ns) a) y (ms ++ drop (length ms) a) y' s t'
    in
    let first : Ok k ≡ Ok k' = same.0 in
    let writing : ns ≡ ms = one_writing ns ms a (l ∙ sym long) same.1 in
    let rest = one_alone bs xs a b (suc i) (suc j) qs' rs' us' ws' (ap suc e) z w in
    (rw (first, rest.0) refl, rw (writing, rest.1) refl)

-- THE CELLS END AS AFTER JUDGING EACH ALONE, IN ORDER
pub as_alone :
    (bs xs a a_now b b_now : List ℕ) (rs : List Judged) → InOrder bs xs 0 rs a a_now b b_now →
    (ws : List (List ℕ)) × Alone bs xs a b 0 rs ws × (a_now ≡ written_over ws a)
    × (b_now ≡ written_over (map (λ (ns : List ℕ). replicate (length ns) 0) ws) b)
    × ((qs : List Judged) (us : List (List ℕ)) → Alone bs xs a b 0 qs us → (qs ≡ rs) × (us ≡ ws))
as_alone bs xs a a_now b b_now rs f =
    let z = alone_from bs xs a b 0 rs a a_now b b_now refl refl f in
    (z.written, z.alone, z.notes, z.work, λ qs us w. one_alone bs xs a b 0 0 qs rs us z.written refl w z.alone)
