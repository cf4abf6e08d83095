-- `builder::planning::plan_of` meets its contract: its parts are the plan's. Assumes nothing.
use Rattle.builder.specs.Image.{built_length}
use Rattle.builder.proofs.planning.plan_of.Goals as goal

pub invariant_of-result : goal.invariant_of-result
unfolding built_length
invariant_of-result c =
    record {
      classes_are = c.class_count-classes.ensures;
      count_is = c.rule_count-count.ensures;
      long_is = rw (← c.rule_count-count.ensures) c.image_length-long.ensures;
    }
