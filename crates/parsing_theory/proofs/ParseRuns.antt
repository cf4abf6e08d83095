-- From parsing to the machine's run: where a rule has a result, its entry is removed, and state and head tell the result. Assumes only the table.
use mathlib.Core.Path.{◌≡◌, ◌∙◌}
use mathlib.Core.Bool.{true, false, ◌&&◌}
use mathlib.Core.List.{List, ◌∷◌}
use mathlib.Core.Option.{Option, none, some}
use Prim.Native.Nat.{ℕ, suc, ◌+◌, ◌<◌, ◌≤◌}
use native.Mathlib.Nat.{le_refl}
use native.Mathlib.Omega.{arith}
use lib.Dec.{ltb}
use lib.ListN.{length}
use borrow.Author.Tests.{lt-ltb}
use Rattle.machine.specs.declared.Action.TheVariants.{Push}
use Rattle.machine.specs.Run.{Machine, Entry, entry, Description, description, next, step, after, config}
use Rattle.machine.specs.Verdicts.{over_base}
use Rattle.codec.specs.Bytes.{byte}
use Rattle.machine.proofs.Runs.{after_zero, after_then, after_front, after_next, step_change, step_push, step_pop}
use Rattle.grammar.specs.declared.Expression.TheVariants.{Sequence, Choice, Not, Empty, Range}
use Rattle.grammar.specs.Parsing.{Rules, in_range, Parses, sequence, sequence_fails, choice, choice_other, not_there, not_fails, empty, range, range_fails}
use Rattle.builder.specs.Table.{state_work, state_ok, state_fail, first, second}
use Rattle.parsing_theory.proofs.Table.{Table}
use Rattle.grammar.proofs.Bools.{both_hold}
use Rattle.parsing_theory.proofs.TableRows.{sequence_parts, choice_parts, not_part, sequence_work, sequence_ok, sequence_fail, sequence_work_second, sequence_ok_second, sequence_fail_second, choice_work, choice_ok, choice_fail, choice_work_second, choice_ok_second, choice_fail_second, not_work, not_ok, not_fail, empty_work, range_work, range_work_fails, range_ok}

-- work on rule k begins at capture place i
abbrev pub working : (k i : ℕ) → List Entry → Description
working k i es = over_base (config state_work (suc i) (first k)) (suc i) es

-- work on a rule's other part begins at place j
abbrev pub working_second : (k i j : ℕ) → List Entry → Description
working_second k i j es = over_base (config state_work (suc j) (second k)) (suc i) es

-- the entry is removed: ok where the result ends, or fail where the work began
abbrev pub popped : (i : ℕ) → Option ℕ → List Entry → Description
popped i none es = description state_fail (suc i) es
popped i (some j) es = description state_ok (suc j) es

-- a result ends in the capture, not before its beginning
abbrev pub EndsInside : (size i : ℕ) → Option ℕ → Type 0
EndsInside n i none = Unit {0}
EndsInside n i (some j) = (i ≤ j) × (j ≤ n)

-- the run removes the entry of rule k, whatever lies below it
pub record Came (M : Machine) (cs : List ℕ) (k i : ℕ) (o : Option ℕ) : Type 0 where
  pub steps : ℕ
  pub comes : (f : Entry) (es : List Entry) → after steps M (working k i (f ∷ es)) ≡ some (popped i o (f ∷ es))
  pub ends : EndsInside (length cs) i o

-- what a rule's entry does first, and what its next step is once a part's entry is removed
abbrev pub Pushes : Machine → (i a b : ℕ) → Type 0
Pushes M i a b = M.action (config state_work (suc i) a) ≡ Push (config state_work (suc i) (first b))

abbrev pub GoesTo : Machine → (a i j : ℕ) → Option ℕ → (List Entry → Description) → Type 0
GoesTo M a i j o x = (f : Entry) (es : List Entry) → step M (popped j o (entry a (suc i) ∷ f ∷ es)) ≡ next (x (f ∷ es))

-- WAYS, by the actions on them
module _ {M : Machine} {cs : List ℕ} (k i : ℕ) where
  -- the first part's entry is pushed and removed
  first_back :
      {b : ℕ} {o : Option ℕ} → Pushes M i (first k) b → (w : Came M cs b i o) → (f : Entry) (es : List Entry) →
      after (suc w.steps) M (working k i (f ∷ es)) ≡ some (popped i o (entry (first k) (suc i) ∷ f ∷ es))
  first_back push w f es =
      after_front M w.steps (working k i (f ∷ es)) (step_push M (config state_work (suc i) (first k)) (suc i) (f ∷ es) push)
      ∙ w.comes (entry (first k) (suc i)) (f ∷ es)

  -- then the rule turns to its second symbol, and pushes the other part
  pub second_begins :
      {b : ℕ} (c j : ℕ) {u : Option ℕ} → Pushes M i (first k) b → (w : Came M cs b i u) → GoesTo M (first k) i i u (working_second k i j) →
      Pushes M j (second k) c → (f : Entry) (es : List Entry) →
      after (3 + w.steps) M (working k i (f ∷ es)) ≡ some (working c j (entry (second k) (suc i) ∷ f ∷ es))
  second_begins c j push w turn again f es =
      let count : 3 + w.steps ≡ suc (suc (suc w.steps)) = omega arith in
      let turned = after_next M (suc w.steps) (working k i (f ∷ es)) (first_back push w f es) (turn f es) in
      rw count (after_next M (suc (suc w.steps)) (working k i (f ∷ es)) turned
      (step_push M (config state_work (suc j) (second k)) (suc i) (f ∷ es) again))

module _ {M : Machine} {cs : List ℕ} {k i : ℕ} {o : Option ℕ} where
  -- the entry goes at once
  came_now :
      ((f : Entry) (es : List Entry) → step M (working k i (f ∷ es)) ≡ next (popped i o (f ∷ es))) → EndsInside (length cs) i o →
      Came M cs k i o
  came_now last inside =
      record {
        steps = 1;
        comes = λ f es. after_next M 0 (working k i (f ∷ es)) (after_zero M (working k i (f ∷ es))) (last f es);
        ends = inside;
      }

  came_once :
      {b : ℕ} {u : Option ℕ} → Pushes M i (first k) b → Came M cs b i u → GoesTo M (first k) i i u (popped i o) →
      EndsInside (length cs) i o → Came M cs k i o
  came_once push w last inside =
      record {
        steps = suc (suc w.steps);
        comes = λ f es. after_next M (suc w.steps) (working k i (f ∷ es)) (first_back k i push w f es) (last f es);
        ends = inside;
      }

  came_twice :
      {b c j : ℕ} {u : Option ℕ} → Pushes M i (first k) b → Came M cs b i u → GoesTo M (first k) i i u (working_second k i j) →
      Pushes M j (second k) c → Came M cs c j o → GoesTo M (second k) i j o (popped i o) → EndsInside (length cs) i o → Came M cs k i o
  came_twice {c = c} {j = j} push w turn again v last inside =
      record {
        steps = suc (3 + w.steps + v.steps);
        comes = λ f es.
            after_next M (3 + w.steps + v.steps) (working k i (f ∷ es))
            (after_then M (3 + w.steps) v.steps (working k i (f ∷ es)) (second_begins k i c j push w turn again f es)
            ∙ v.comes (entry (second k) (suc i)) (f ∷ es)) (last f es);
        ends = inside;
      }

-- BY THE KIND OF RULE
module _ {M : Machine} {E : Rules} {m : ℕ} {cs : List ℕ} (t : Table M E m cs) {k i : ℕ} (below : k < m) (here : i ≤ length cs) where
  pub sequence_turns :
      {b c : ℕ} (j : ℕ) → E k ≡ Sequence b c → j ≤ length cs → GoesTo M (first k) i i (some j) (working_second k i j)
  sequence_turns j e l f es = step_change M (config state_ok (suc j) (first k)) (suc i) (f ∷ es) (sequence_ok t below l e)

  sequence_last :
      {b c : ℕ} (j : ℕ) (o : Option ℕ) → E k ≡ Sequence b c → j ≤ length cs → EndsInside (length cs) j o →
      GoesTo M (second k) i j o (popped i o)
  sequence_last j none e l inside f es =
      step_pop M (config state_fail (suc j) (second k)) (suc i) f es (sequence_fail_second t below l e)
  sequence_last j (some h) e l inside f es =
      step_pop M (config state_ok (suc h) (second k)) (suc i) f es (sequence_ok_second t below inside.1 e)

  ends_later : (j : ℕ) (o : Option ℕ) → i ≤ j → EndsInside (length cs) j o → EndsInside (length cs) i o
  ends_later j none l inside = tt
  ends_later j (some h) l inside = (omega arith, inside.1)

  came_sequence :
      {b c j : ℕ} {o : Option ℕ} → E k ≡ Sequence b c → Came M cs b i (some j) → Came M cs c j o → Came M cs k i o
  came_sequence {j = j} {o = o} e w v =
      let l : j ≤ length cs = w.ends.1 in
      came_twice (sequence_work t below here e) w (sequence_turns j e l) (sequence_work_second t below l e) v
      (sequence_last j o e l v.ends) (ends_later j o w.ends.0 v.ends)

  came_sequence_fails : {b c : ℕ} → E k ≡ Sequence b c → Came M cs b i none → Came M cs k i none
  came_sequence_fails e w =
      came_once (sequence_work t below here e) w
      (λ f es. step_pop M (config state_fail (suc i) (first k)) (suc i) f es (sequence_fail t below here e)) tt

  came_choice : {b c j : ℕ} → E k ≡ Choice b c → Came M cs b i (some j) → Came M cs k i (some j)
  came_choice {j = j} e w =
      came_once (choice_work t below here e) w
      (λ f es. step_pop M (config state_ok (suc j) (first k)) (suc i) f es (choice_ok t below w.ends.1 e)) w.ends

  pub choice_turns :
      {b c : ℕ} → E k ≡ Choice b c → GoesTo M (first k) i i none (working_second k i i)
  choice_turns e f es = step_change M (config state_fail (suc i) (first k)) (suc i) (f ∷ es) (choice_fail t below here e)

  choice_last :
      {b c : ℕ} (o : Option ℕ) → E k ≡ Choice b c → EndsInside (length cs) i o → GoesTo M (second k) i i o (popped i o)
  choice_last none e inside f es = step_pop M (config state_fail (suc i) (second k)) (suc i) f es (choice_fail_second t below here e)
  choice_last (some h) e inside f es =
      step_pop M (config state_ok (suc h) (second k)) (suc i) f es (choice_ok_second t below inside.1 e)

  came_choice_other :
      {b c : ℕ} {o : Option ℕ} → E k ≡ Choice b c → Came M cs b i none → Came M cs c i o → Came M cs k i o
  came_choice_other {o = o} e w v =
      came_twice (choice_work t below here e) w (choice_turns e) (choice_work_second t below here e) v
      (choice_last o e v.ends) v.ends

  came_not_there : {b : ℕ} → E k ≡ Not b → Came M cs b i none → Came M cs k i (some i)
  came_not_there e w =
      came_once (not_work t below here e) w
      (λ f es. step_pop M (config state_fail (suc i) (first k)) (suc i) f es (not_fail t below here e)) (le_refl i, here)

  came_not_fails : {b j : ℕ} → E k ≡ Not b → Came M cs b i (some j) → Came M cs k i none
  came_not_fails {j = j} e w =
      came_once (not_work t below here e) w
      (λ f es. step_pop M (config state_ok (suc j) (first k)) (suc i) f es (not_ok t below w.ends.1 e)) tt

  came_empty : E k ≡ Empty → Came M cs k i (some i)
  came_empty e =
      came_now (λ f es. step_pop M (config state_work (suc i) (first k)) (suc i) f es (empty_work t below here e)) (le_refl i, here)

  came_range :
      {b c : ℕ} → E k ≡ Range b c → i < length cs → (ltb i (length cs) && in_range b c (byte cs i)) ≡ true → Came M cs k i (some (suc i))
  came_range e l h =
      record {
        steps = 2;
        comes = λ f es.
            after_front M 1 (working k i (f ∷ es))
            (step_change M (config state_work (suc i) (first k)) (suc i) (f ∷ es) (range_work t below here e h))
            ∙ after_front M 0 (over_base (config state_ok (suc (suc i)) (first k)) (suc i) (f ∷ es))
            (step_pop M (config state_ok (suc (suc i)) (first k)) (suc i) f es (range_ok t below l e))
            ∙ after_zero M (popped i (some (suc i)) (f ∷ es));
        ends = (omega arith, l);
      }

  came_range_fails :
      {b c : ℕ} → E k ≡ Range b c → (ltb i (length cs) && in_range b c (byte cs i)) ≡ false → Came M cs k i none
  came_range_fails e h =
      came_now (λ f es. step_pop M (config state_work (suc i) (first k)) (suc i) f es (range_work_fails t below here e h)) tt

-- a result comes from the run
pub came :
    {M : Machine} {E : Rules} {m : ℕ} {cs : List ℕ} → Table M E m cs → {k i : ℕ} {o : Option ℕ} → k < m → i ≤ length cs →
    Parses E cs k i o → Came M cs k i o
came t below here (sequence e x y) =
    let w = came t (sequence_parts t below e).0 here x in
    came_sequence t below here e w (came t (sequence_parts t below e).1 w.ends.1 y)
came t below here (sequence_fails e x) = came_sequence_fails t below here e (came t (sequence_parts t below e).0 here x)
came t below here (choice e x) = came_choice t below here e (came t (choice_parts t below e).0 here x)
came t below here (choice_other e x y) =
    came_choice_other t below here e (came t (choice_parts t below e).0 here x) (came t (choice_parts t below e).1 here y)
came t below here (not_there e x) = came_not_there t below here e (came t (not_part t below e) here x)
came t below here (not_fails e x) = came_not_fails t below here e (came t (not_part t below e) here x)
came t below here (empty e) = came_empty t below here e
came {cs = cs} t {i = i} below here (range {b = b} {c = c} e l h) =
    came_range t below here e l (both_hold (ltb i (length cs)) (in_range b c (byte cs i)) (lt-ltb i (length cs) l) h)
came t below here (range_fails e h) = came_range_fails t below here e h
