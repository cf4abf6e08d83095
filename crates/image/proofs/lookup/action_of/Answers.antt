-- `image::lookup::action_of` meets its contract: each need is a law of proofs/Lookups.antt. Assumes nothing.
use Rattle.image.proofs.Lookups.{rule_fits, rule_ready, action_is}
use Rattle.image.proofs.lookup.action_of.Goals as goal

pub rule_offset-offset-requires : goal.rule_offset-offset-requires
rule_offset-offset-requires c = rule_fits c.requires c.class_under-class.ensures

pub action_at-requires : goal.action_at-requires
action_at-requires c =
    rule_ready c.requires c.class_under-class.ensures c.rule_offset-offset.ensures

pub returns : goal.returns
returns c =
    action_is c.requires c.class_under-class.ensures c.rule_offset-offset.ensures c.action_at.ensures
