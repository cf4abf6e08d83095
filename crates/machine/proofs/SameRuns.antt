-- Two machines that run through the same descriptions: they enter the same configurations, and go on and come again alike. Assumes nothing.
use mathlib.Core.Path.{◌≡◌, sym, ◌∙◌}
use mathlib.Core.List.{[]}
use Prim.Native.Nat.{ℕ}
use Rattle.machine.specs.declared.Config.{Config}
use Rattle.machine.specs.Run.{Machine, Description, start, over, step, after}
use Rattle.machine.specs.Verdicts.{Entered, EndsWith, GoesOn, Again, FirstAgain, AllEntered, over_base}

pub record SameRuns (M N : Machine) : Type 0 where
  pub runs : (n : ℕ) (x : Description) → after n M x ≡ after n N x

pub same_back : {M N : Machine} → SameRuns M N → SameRuns N M
same_back s = record { runs = λ n x. sym (s.runs n x) }

pub entered_alike : {M N : Machine} {c : Config} → SameRuns M N → Entered M c → Entered N c
entered_alike s e =
    record { steps = e.steps; place = e.place; reached = sym (s.runs e.steps start) ∙ e.reached; is = e.is }

pub all_entered_alike : {M N : Machine} {count : ℕ} → SameRuns M N → AllEntered M count → AllEntered N count
all_entered_alike s l =
    record {
      configs = l.configs;
      distinct = l.distinct;
      only = λ c m. entered_alike s (l.only c m);
      all = λ c e. l.all c (entered_alike (same_back s) e);
      counted = l.counted;
    }

pub ends_alike :
    {M N : Machine} {c d : Config} {k : ℕ} → SameRuns M N → ((x : Description) (p i : ℕ) → step M x ≡ over p i → step N x ≡ over p i) →
    EndsWith M c k d → EndsWith N c k d
ends_alike {M} {N} {c} {d} {k} s pops e =
    let (p, i, h) = e.gone in
    record {
      steps = e.steps;
      place = e.place;
      reached = sym (s.runs e.steps (over_base c k [])) ∙ e.reached;
      is = e.is;
      gone = (p, i, pops e.place p i h);
    }

pub goes_on_alike : {M N : Machine} → SameRuns M N → GoesOn M → GoesOn N
goes_on_alike s on n = let (x, e) = on n in (x, sym (s.runs n start) ∙ e)

again_alike : {M N : Machine} {k : ℕ} → SameRuns M N → Again M k → Again N k
again_alike {M} {N} {k} s a =
    record {
      earlier = a.earlier;
      before = a.before;
      then_at = a.then_at;
      now_at = a.now_at;
      was = sym (s.runs a.earlier start) ∙ a.was;
      is = sym (s.runs k start) ∙ a.is;
      same = a.same;
      above = λ m x l h e. a.above m x l h (s.runs m start ∙ e);
    }

pub first_again_alike : {M N : Machine} {d : Config} → SameRuns M N → FirstAgain M d → FirstAgain N d
unfolding again_alike
first_again_alike s f =
    record {
      at_step = f.at_step;
      again = again_alike s f.again;
      first = λ j l a. f.first j l (again_alike (same_back s) a);
      is = f.is;
    }
