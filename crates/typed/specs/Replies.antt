-- The numbers of what reading a text answers, with what it leaves in a buffer for the grammar, and of what its check for left recursion answers. Assumes nothing: these are definitions.
use Rattle.std.specs.Prelude.{List, ◌++◌, ℕ, take, drop, Result, Ok, Err}
use Rattle.refusal.specs.declared.Refusal.{Refusal}
use Rattle.machine.specs.declared.Reply.{Reply}
use Rattle.machine.specs.Replies.{no_config, refusal_reply, count_reply}
use Rattle.reader.specs.declared.GrammarBytes.{GrammarBytes}
use Rattle.typed.specs.declared.left_recursion.RecursionFault.{RecursionFault}
use Rattle.typed.specs.declared.left_recursion.RecursionFault.TheVariants.{Refused, Recursive}
use Rattle.typed.specs.Recursion.{TextRecursion}

-- the grammar's length is a count
unfoldable pub of_read : Result GrammarBytes Refusal → Reply
of_read (Ok g) = count_reply g.length
of_read (Err f) = refusal_reply f

-- the grammar, then the later bytes as they were; where the text is refused there is no grammar, and no byte changes
abbrev pub grammar_left : Result GrammarBytes Refusal → List ℕ → List ℕ
grammar_left (Ok g) a = take g.length g.bytes ++ drop g.length a
grammar_left (Err f) a = a

-- a rule that leads back to itself is refusal 19 with its number as the place, and the offset of its line's name as a count
unfoldable pub fault_reply : RecursionFault → Reply
fault_reply (Refused f) = refusal_reply f
fault_reply (Recursive k o) = record { refusal = 19; place = k; verdict = 0; count = o; end = no_config }

unfoldable pub of_text_recursion : TextRecursion → Reply
of_text_recursion (Ok _) = count_reply 0
of_text_recursion (Err f) = fault_reply f
