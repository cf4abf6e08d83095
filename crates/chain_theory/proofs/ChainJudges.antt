-- The program's own chain is correct for every image and capture that is not refused; and each of its states is one that a step may take. Assumes nothing.
use mathlib.Core.Path.{◌≡◌, refl, sym, subst, ◌∙◌, ap}
use mathlib.Core.List.{List}
use Prim.Native.Nat.{ℕ, zero, suc, ◌+◌, ◌<◌, ◌≤◌}
use native.Mathlib.Omega.{arith}
use lib.ListN.{length, take, drop}
use lib.Seq.{get_or-take, get_or-drop}
use Rattle.image.specs.Format
use Rattle.codec.specs.Bytes.{byte}
use Rattle.codec.specs.Numbers.{number_at, u32_at}
use Rattle.image.specs.Image.{symbols, classes, accepting, machine, sizes_of}
use Rattle.image.specs.Refusals.{Unrefused}
use Rattle.machine.specs.Run.{number_by}
use Rattle.machine.specs.Verdicts.{AllEntered}
use Rattle.image.proofs.Inside.{inside}
use Rattle.machine.proofs.Listing.{all_entered}
use Rattle.machine.proofs.Reach.{entered_there}
use Rattle.chain.specs.declared.Environment.{Environment}
use Rattle.chain.specs.declared.Registers.{Registers}
use Rattle.chain.specs.declared.JudgeState.{JudgeState}
use Rattle.chain.specs.Step.{ProgramState, with_cells, judge_step}
use Rattle.chain.specs.Code.Ready.{Ready}
use Rattle.chain.specs.Chain.{NewlyNoted}
use Rattle.chain.specs.Chain.{stepped, started, reached, start_state, chain, environment_of, ChainCorrect}
use Rattle.chain_theory.proofs.Invariant.{Fitted, ChainInvariant}
use Rattle.chain.proofs.StepSafe.{few_cells}
use Rattle.chain.proofs.StepAdds.{step_adds}
use Rattle.chain_theory.proofs.StepNumber.{NumberBeside, step_numbered}
use Rattle.chain_theory.proofs.Readies.{holds_ready}
use Rattle.chain_theory.proofs.Finish.{Starts, begin_holds, few_steps, settled_at, noted_at, work_zero, Finished, finish}

-- the section of the counts, and a byte of it
abbrev pub counts_of : (image : List ℕ) → List ℕ
counts_of bs = take Format.counts_length (drop Format.counts_offset bs)

count_byte : (bs : List ℕ) (k : ℕ) → k < Format.counts_length → byte (counts_of bs) k ≡ byte bs (Format.counts_offset + k)
count_byte bs k l = get_or-take Format.counts_length (drop Format.counts_offset bs) k 0 l ∙ get_or-drop Format.counts_offset bs k 0

count_four : (bs : List ℕ) → u32_at (counts_of bs) 4 ≡ u32_at bs Format.finals_offset
unfolding number_at
count_four bs =
    rw (count_byte bs 4 (omega arith), count_byte bs 5 (omega arith), count_byte bs 6 (omega arith), count_byte bs 7 (omega arith))

-- the start's environment is made of the image's counts and finals
pub start_environment : (bs cs : List ℕ) → (start_state (counts_of bs) (length cs)).environment ≡ environment_of bs cs
unfolding start_state sizes_of classes symbols
start_environment bs cs = rw (count_byte bs 1 (omega arith), count_byte bs 2 (omega arith), count_four bs)

-- that environment fits the machine
pub environment_fitted : (bs cs : List ℕ) → Unrefused bs cs → Fitted (machine bs cs) (environment_of bs cs)
unfolding machine sizes_of accepting
environment_fitted bs cs u =
    record { places_are = refl; symbols_are = refl; accepts_as = λ p i. refl; few_cells = omega (arith, few_cells u) }

-- THE CHAIN'S REGISTERS AND CELLS, by steps; the environment stays as it is at the start
unfoldable pub registers_at : (bs cs : List ℕ) → (n : ℕ) → ProgramState Registers
registers_at bs cs n =
    with_cells (reached chain bs cs n).state.registers (reached chain bs cs n).notes (reached chain bs cs n).work

pub environment_at : (bs cs : List ℕ) (n : ℕ) → (reached chain bs cs n).state.environment ≡ environment_of bs cs
unfolding reached started stepped chain
environment_at bs cs zero = start_environment bs cs
environment_at bs cs (suc n) = environment_at bs cs n

registers_step :
    (bs cs : List ℕ) (n : ℕ) →
    registers_at bs cs (suc n) ≡ judge_step (machine bs cs) (reached chain bs cs n).state.environment (registers_at bs cs n)
unfolding registers_at reached stepped chain
registers_step bs cs n = refl

pub registers_go :
    (bs cs : List ℕ) (n : ℕ) → registers_at bs cs (suc n) ≡ judge_step (machine bs cs) (environment_of bs cs) (registers_at bs cs n)
registers_go bs cs n =
    registers_step bs cs n ∙ ap (λ (e : Environment). judge_step (machine bs cs) e (registers_at bs cs n)) (environment_at bs cs n)

starts : (bs cs : List ℕ) → Starts (registers_at bs cs 0).state
unfolding registers_at reached started chain start_state
starts bs cs = record { looks = refl; at_start = refl; is_pushed = refl; none_open = refl; none_read = refl }

begins : (bs cs : List ℕ) → Unrefused bs cs → ChainInvariant (machine bs cs) 0 (registers_at bs cs 0)
unfolding registers_at reached started chain start_state
begins bs cs u = begin_holds (inside bs cs u) (starts bs cs)

pub finished : (bs cs : List ℕ) → Unrefused bs cs → Finished (machine bs cs) (registers_at bs cs)
finished bs cs u = finish (environment_fitted bs cs u) (inside bs cs u) (registers_at bs cs) (registers_go bs cs) (begins bs cs u)

start_numbered : (bs cs : List ℕ) → NumberBeside (environment_of bs cs) (registers_at bs cs 0).state
unfolding registers_at reached started chain start_state number_by
start_numbered bs cs = record { number_is = omega arith }

start_reads : (bs cs : List ℕ) → chain.readings (started chain bs cs).state ≡ 0
unfolding chain started start_state
start_reads bs cs = refl

-- in each state the number beside the configuration is its own
pub numbered_at : (bs cs : List ℕ) (n : ℕ) → NumberBeside (environment_of bs cs) (registers_at bs cs n).state
numbered_at bs cs zero = start_numbered bs cs
numbered_at bs cs (suc n) =
    subst (λ (x : ProgramState Registers). NumberBeside (environment_of bs cs) x.state) (sym (registers_go bs cs n))
    (step_numbered (machine bs cs) (environment_of bs cs) (registers_at bs cs n) (numbered_at bs cs n))

-- each state up to the verdict is one that a step may take
pub ready_at :
    (bs cs : List ℕ) (u : Unrefused bs cs) (n : ℕ) → n ≤ (finished bs cs u).steps →
    Ready bs cs (environment_of bs cs) (registers_at bs cs n).state (registers_at bs cs n).notes (registers_at bs cs n).work
ready_at bs cs u n l =
    holds_ready bs cs u (environment_fitted bs cs u) refl ((finished bs cs u).holds n l) (numbered_at bs cs n)

one_reading :
    (bs cs : List ℕ) (u : Unrefused bs cs) (n : ℕ) → n ≤ (finished bs cs u).steps →
    (registers_at bs cs (suc n)).state.readings ≤ suc (registers_at bs cs n).state.readings
unfolding judge_step
one_reading bs cs u n l =
    let ready = ready_at bs cs u n l in
    rw (registers_go bs cs n) (step_adds ready (registers_at bs cs n).state.mode ready.open_one).one_more

one_noted_at :
    (bs cs : List ℕ) (u : Unrefused bs cs) (n : ℕ) → n ≤ (finished bs cs u).steps →
    NewlyNoted (registers_at bs cs n).state.readings (registers_at bs cs (suc n)).state.readings (registers_at bs cs n).notes
    (registers_at bs cs (suc n)).notes
unfolding judge_step
one_noted_at bs cs u n l =
    let ready = ready_at bs cs u n l in
    rw (registers_go bs cs n) (step_adds ready (registers_at bs cs n).state.mode ready.open_one).newly_noted

pub chain_judges : (bs cs : List ℕ) → Unrefused bs cs → ChainCorrect JudgeState chain bs cs
unfolding chain registers_at
chain_judges bs cs u =
    let f = finished bs cs u in
    let last = f.holds f.steps (omega arith) in
    let settled = settled_at last f.answers in
    let listed = all_entered (machine bs cs) (registers_at bs cs f.steps).notes (noted_at settled) (entered_there (inside bs cs u)) in
    record {
      steps = f.steps;
      verdict = f.verdict;
      answers = f.answers;
      says = settled.says;
      noted = noted_at settled;
      cleared = work_zero last f.answers;
      few = few_steps last;
      none_read = start_reads bs cs;
      not_before = f.not_before;
      one_more = λ n l. one_reading bs cs u n (omega arith);
      newly_noted = λ n l. one_noted_at bs cs u n (omega arith);
      counted = λ n l. (f.holds n l).shared.counted;
      entered = subst (AllEntered (machine bs cs)) (sym last.shared.counted) listed;
    }
