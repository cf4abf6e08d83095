-- The computed fault of a text is the earliest fault as the prose has it, and a text without one is legal. Assumes nothing.
use mathlib.Core.Path.{◌≡◌, refl, ap, ◌∙◌}
use mathlib.Core.List.{List, [], ◌∷◌, ◌++◌, append-nil}
use mathlib.Core.Logic.{◌↔◌}
use Prim.Native.Nat.{ℕ}
use native.Mathlib.Omega.{arith}
use lib.ListN.{length}
use borrow.Author.Tests.{lt-ltb}
use Rattle.refusal.specs.declared.Refusal.{Refusal}
use Rattle.refusal.specs.First.{refusal, no_refusal}
use Rattle.syntax.specs.Tokens.{Token, Lexeme, lexemes, tokens}
use Rattle.syntax.specs.Trees.{Definition, Legal, LegalText, max_depth}
use Rattle.syntax.specs.Faults.{Spot, at_line, at_equals, inside, Next, to, wrong, next, defined_after, at_end, first_wrong, fault}
use Rattle.syntax.specs.FaultMeaning.{Viable, WrongAt, misplaced, too_deep, ends_early}
use Rattle.syntax.proofs.Automaton.{Moves, Run, stay, move, run_append, run_higher, one_spot, one_place, parted, Outcome, goes_on, never, deeper, outcome}
use Rattle.syntax.proofs.RunLegal.{run_legal}
use Rattle.syntax.proofs.LegalRun.{legal_run, Passed, viable_passed, passed_viable}

-- THE CHECK'S COURSE over lexemes: a run over all of them, or a run up to one that makes no move
data Course (ns : List (List ℕ)) (s : Spot) (ls : List Lexeme) (n : ℕ) : Refusal → Type 0 where
  whole : {ms : List (List ℕ)} {u : Spot} → Run max_depth ns s (tokens ls) ms u → Course ns s ls n (at_end ms u n)
  broken :
      (before later : List Lexeme) (l : Lexeme) {ms : List (List ℕ)} {u : Spot} {m : ℕ} → ls ≡ before ++ (l ∷ later) →
      Run max_depth ns s (tokens before) ms u → Outcome ms u l.token (wrong m) → Course ns s ls n (refusal m l.offset)

longer_course :
    {ns : List (List ℕ)} {r s : Spot} {l : Lexeme} {ls : List Lexeme} {n : ℕ} {f : Refusal} → Moves max_depth ns r l.token s →
    Course (defined_after ns r l.token) s ls n f → Course ns r (l ∷ ls) n f
unfolding tokens
longer_course m (whole x) = whole (move m x)
longer_course {l = l} m (broken before later k e x o) = broken (l ∷ before) later k (ap (λ ks. l ∷ ks) e) (move m x) o

course : (ns : List (List ℕ)) (s : Spot) (ls : List Lexeme) (n : ℕ) → Course ns s ls n (first_wrong ns s ls n)
unfolding first_wrong tokens
course ns s [] n = whole stay
course ns s (l ∷ ls) n = go (next ns s l.token) (outcome ns s l.token) (λ u. course (defined_after ns s l.token) u ls n)
  where
    go :
        (x : Next) → Outcome ns s l.token x →
        ((u : Spot) → Course (defined_after ns s l.token) u ls n (first_wrong (defined_after ns s l.token) u ls n)) →
        Course ns s (l ∷ ls) n
        (elim x [ to t ↦ first_wrong (defined_after ns s l.token) t ls n | wrong m ↦ refusal m l.offset ])
    go (to u) (goes_on m) rest = longer_course m (rest u)
    go (wrong m) o rest = broken [] ls l refl stay o

-- THE CHECK GOES ALONG A RUN
moves_next : {ns : List (List ℕ)} {s u : Spot} {t : Token} → Moves max_depth ns s t u → next ns s t ≡ to u
moves_next {ns} {s} {u} {t} m = go (next ns s t) (outcome ns s t)
  where
    go : (x : Next) → Outcome ns s t x → x ≡ to u
    go (to v) (goes_on k) = ap to (one_spot k m)
    go (wrong j) (never stuck) = absurd (stuck _ _ m)
    go (wrong j) (deeper d h k stuck) = absurd (stuck _ m)

along :
    {ns ms : List (List ℕ)} {s u : Spot} (before ls : List Lexeme) (n : ℕ) → Run max_depth ns s (tokens before) ms u →
    first_wrong ns s (before ++ ls) n ≡ first_wrong ms u ls n
unfolding tokens first_wrong
along [] ls n stay = refl
along {ns = ns} {s = s} (l ∷ before) ls n (move m x) = rw (moves_next m, first_wrong) (along {ns = defined_after ns s l.token} before ls n x)

-- the fault, where a run comes to a lexeme that makes no move
fault_there :
    (text : List ℕ) (before later : List Lexeme) (l : Lexeme) {ns : List (List ℕ)} {s : Spot} {m : ℕ} → lexemes text ≡ before ++ (l ∷ later) →
    Run max_depth [] at_line (tokens before) ns s → next ns s l.token ≡ wrong m → fault text ≡ refusal m l.offset
unfolding fault first_wrong
fault_there text before later l e x w = rw e (along before (l ∷ later) (length text) x ∙ rw (w, first_wrong))

fault_at_end :
    (text : List ℕ) {ns : List (List ℕ)} {s : Spot} → Run max_depth [] at_line (tokens (lexemes text)) ns s → fault text ≡ at_end ns s (length text)
unfolding fault first_wrong
fault_at_end text x = rw append-nil at (along (lexemes text) [] (length text) x)

-- ONE TOKEN MORE: legal texts can go on with it where the check moves
one_more_viable :
    {d : ℕ} {ns : List (List ℕ)} {s u : Spot} (ts : List Token) {t : Token} → Run d [] at_line ts ns s → Moves d ns s t u →
    Viable d (ts ++ (t ∷ []))
one_more_viable ts {t} x m = passed_viable (ts ++ (t ∷ [])) (record { names = _; spot = _; run = run_append x (move m stay) })

viable_moves :
    {d : ℕ} {ns : List (List ℕ)} {s : Spot} (ts : List Token) {t : Token} → Run max_depth [] at_line ts ns s → Viable d (ts ++ (t ∷ [])) →
    (u : Spot) × Moves d ns s t u
viable_moves {d} {ns} {s} ts {t} x v =
    let p = viable_passed (ts ++ (t ∷ [])) v in
    let q = parted ts (t ∷ []) p.run in
    let e = one_place q.before x in
    go (rw (e.names, e.spot) at q.later)
  where
    go : {ms : List (List ℕ)} {u : Spot} → Run d ns s (t ∷ []) ms u → (u : Spot) × Moves d ns s t u
    go (move m y) = (_, m)

-- AT THE TEXT'S END: no fault after a line, or one
data Last (ns : List (List ℕ)) (s : Spot) (n : ℕ) : Refusal → Type 0 where
  accepted : (m : List ℕ) (ms : List (List ℕ)) → ns ≡ m ∷ ms → s ≡ at_line → Last ns s n no_refusal
  early : ((m : List ℕ) (ms : List (List ℕ)) → ns ≡ m ∷ ms → s ≡ at_line → ⊥) → Last ns s n (refusal 15 n)

last : (ns : List (List ℕ)) (s : Spot) (n : ℕ) → Last ns s n (at_end ns s n)
unfolding at_end
last [] at_line n = early (λ m ms e f. let z : ◌≡◌ {A = ℕ} 0 1 = cc in omega arith)
last (m ∷ ms) at_line n = rw (lt-ltb 0 (length (m ∷ ms)) (omega arith)) (accepted m ms refl refl)
last ns at_equals n = early (λ m ms e f. let z : ◌≡◌ {A = ℕ} 0 1 = cc in omega arith)
last ns (inside c k) n = early (λ m ms e f. let z : ◌≡◌ {A = ℕ} 0 1 = cc in omega arith)

-- a run over the whole text that ends elsewhere: no lines are the text's
not_legal :
    {ns : List (List ℕ)} {s : Spot} (ts : List Token) → Run max_depth [] at_line ts ns s →
    ((m : List ℕ) (ms : List (List ℕ)) → ns ≡ m ∷ ms → s ≡ at_line → ⊥) → (ds : List Definition) → Legal max_depth ts ds → ⊥
not_legal ts x h ds l =
    let (m, ms, y) = legal_run l in
    let e = one_place x y in
    h m ms e.names e.spot

legal_there :
    {ns : List (List ℕ)} {s : Spot} {m : List ℕ} {ms : List (List ℕ)} (ts : List Token) → Run max_depth [] at_line ts ns s → ns ≡ m ∷ ms →
    s ≡ at_line → (ds : List Definition) × Legal max_depth ts ds
legal_there ts x e f = run_legal (rw (e, f) at x)

-- THE EARLIEST FAULT IS COMPUTED
wrong_computed : (text : List ℕ) {f : Refusal} → WrongAt text f → (fault text ≡ f) × (f.number ≡ 0 → ⊥)
wrong_computed text (misplaced before later l e v stuck) = (go _ refl (outcome _ _ _), λ z. omega arith)
  where
    p : Passed max_depth (tokens before)
    p = viable_passed (tokens before) v

    go : (y : Next) → next p.names p.spot l.token ≡ y → Outcome p.names p.spot l.token y → fault text ≡ refusal 15 l.offset
    go (to u) q (goes_on m) = absurd (stuck max_depth (one_more_viable (tokens before) p.run m))
    go (wrong j) q (never h) = fault_there text before later l e p.run q
    go (wrong j) q (deeper d h m k) = absurd (stuck d (one_more_viable (tokens before) (run_higher h p.run) m))
wrong_computed text (too_deep before later l d e v stuck w) = (go _ refl (outcome _ _ _), λ z. omega arith)
  where
    p : Passed max_depth (tokens before)
    p = viable_passed (tokens before) v

    go : (y : Next) → next p.names p.spot l.token ≡ y → Outcome p.names p.spot l.token y → fault text ≡ refusal 17 l.offset
    go (to u) q (goes_on m) = absurd (stuck (one_more_viable (tokens before) p.run m))
    go (wrong j) q (never h) = let (u, m) = viable_moves (tokens before) p.run w in absurd (h d u m)
    go (wrong j) q (deeper k h m n) = fault_there text before later l e p.run q
wrong_computed text (ends_early v illegal) = (fault_at_end text p.run ∙ go (last p.names p.spot (length text)), λ z. omega arith)
  where
    p : Passed max_depth (tokens (lexemes text))
    p = viable_passed (tokens (lexemes text)) v

    go : {f : Refusal} → Last p.names p.spot (length text) f → f ≡ refusal 15 (length text)
    go (accepted m ms e q) = let (ds, l) = legal_there (tokens (lexemes text)) p.run e q in absurd (illegal ds l)
    go (early h) = refl

course_wrong : (text : List ℕ) {f : Refusal} → Course [] at_line (lexemes text) (length text) f → (f.number ≡ 0 → ⊥) → WrongAt text f
course_wrong text (whole {ms = ms} {u = u} x) h = go (last ms u (length text)) h
  where
    ts : List Token
    ts = tokens (lexemes text)

    go : {f : Refusal} → Last ms u (length text) f → (f.number ≡ 0 → ⊥) → WrongAt text f
    go (accepted n ns e q) h = absurd (h refl)
    go (early k) h = ends_early (passed_viable ts (record { names = ms; spot = u; run = x })) (not_legal ts x k)
course_wrong text (broken before later l e x (never stuck)) h =
    misplaced before later l e (passed_viable (tokens before) (record { names = _; spot = _; run = x }))
    (λ d v. let (u, m) = viable_moves (tokens before) x v in stuck d u m)
course_wrong text (broken before later l e x (deeper d k m stuck)) h =
    too_deep before later l d e (passed_viable (tokens before) (record { names = _; spot = _; run = x }))
    (λ v. let (u, n) = viable_moves (tokens before) x v in stuck u n)
    (one_more_viable (tokens before) (run_higher k x) m)

-- NO FAULT: A LEGAL TEXT
course_legal :
    (text : List ℕ) {f : Refusal} → Course [] at_line (lexemes text) (length text) f → f.number ≡ 0 → (ds : List Definition) × LegalText text ds
course_legal text (whole {ms = ms} {u = u} x) z = go (last ms u (length text)) z
  where
    go : {f : Refusal} → Last ms u (length text) f → f.number ≡ 0 → (ds : List Definition) × LegalText text ds
    go (accepted n ns e q) z = legal_there (tokens (lexemes text)) x e q
    go (early k) z = absurd (omega arith)
course_legal text (broken before later l e x (never stuck)) z = absurd (omega arith)
course_legal text (broken before later l e x (deeper d k m stuck)) z = absurd (omega arith)

pub legal_faultless : (text : List ℕ) (ds : List Definition) → LegalText text ds → (fault text).number ≡ 0
unfolding at_end
legal_faultless text ds l =
    let (m, ms, x) = legal_run l in
    let e : fault text ≡ no_refusal = fault_at_end text x ∙ rw (lt-ltb 0 (length (m ∷ ms)) (omega arith)) in
    rw e

-- THE FAULT OF A TEXT IS THE EARLIEST ONE, AND WITHOUT ONE THE TEXT IS LEGAL
pub faults_right :
    (text : List ℕ) →
    ((f : Refusal) → WrongAt text f ↔ ((fault text ≡ f) × (f.number ≡ 0 → ⊥))) ×
    (((fault text).number ≡ 0) ↔ ((ds : List Definition) × LegalText text ds))
unfolding fault
faults_right text =
    let c = course [] at_line (lexemes text) (length text) in
    (λ f. (wrong_computed text, λ h. course_wrong text (rw h.0 at c) h.1), (course_legal text c, λ h. legal_faultless text h.0 h.1))
