-- What a token is to an expression, on the code's own tokens. Assumes nothing: these are definitions.
use Rattle.std.specs.Prelude.{Bool, true, false}
use Rattle.syntax.specs.declared.Sign.TheVariants.{Operand, Before, After, Slash, Opening, Closing, Equals, Semicolon}
use Rattle.syntax.specs.declared.Token.{Token}
use Rattle.syntax.specs.declared.Token.TheVariants.{Name, Sign, Range, Unknown}
use Rattle.expressions.specs.declared.lookahead.Role.{Role}
use Rattle.expressions.specs.declared.lookahead.Role.TheVariants as Roles

abbrev pub role : Token → Role
role (Name k) = Roles.Name k
role (Sign (Operand a)) = Roles.Leaf a
role (Sign (Before p)) = Roles.Prefix p
role (Sign (After x)) = Roles.Suffix x
role (Sign Slash) = Roles.Slash
role (Sign Opening) = Roles.Opening
role (Sign Closing) = Roles.Other
role (Sign Equals) = Roles.Other
role (Sign Semicolon) = Roles.Other
role (Range r) = Roles.Range r
role Unknown = Roles.Other

-- a part of a sequence begins with it
abbrev pub starts : Role → Bool
starts (Roles.Name k) = true
starts (Roles.Range r) = true
starts (Roles.Leaf a) = true
starts Roles.Opening = true
starts (Roles.Prefix p) = true
starts (Roles.Suffix x) = false
starts Roles.Slash = false
starts Roles.Other = false

-- a choice goes on after it
abbrev pub parts_choice : Role → Bool
parts_choice (Roles.Name k) = false
parts_choice (Roles.Range r) = false
parts_choice (Roles.Leaf a) = false
parts_choice Roles.Opening = false
parts_choice (Roles.Prefix p) = false
parts_choice (Roles.Suffix x) = false
parts_choice Roles.Slash = true
parts_choice Roles.Other = false
