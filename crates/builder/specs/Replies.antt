-- The numbers of what the call `build_image` answers. Assumes nothing: these are definitions.
use Rattle.std.specs.Prelude.{Err, Ok}
use Rattle.machine.specs.declared.Reply.{Reply}
use Rattle.machine.specs.Replies.{refusal_reply, count_reply}
use Rattle.builder.specs.Answers.{Built}

-- the image's length is a count
unfoldable pub of_built : Built → Reply
of_built (Err f) = refusal_reply f
of_built (Ok n) = count_reply n
