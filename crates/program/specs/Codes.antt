-- The numbers that a bench file writes for what the tree names (document 01, "The bench file"): the other way round
-- from the rules' lists.
use Rattle.std.proofs.Math.Option.{Option, none, some}
use Rattle.std.specs.Prelude.{ℕ, zero, suc, ◌+◌}
use Rattle.rules.specs.Syntax.{Ty, bool, bits, Direction, by_none, by_in, by_out, by_inout, KeyKind, exact, lpm, ternary}
use Rattle.rules.specs.Syntax.{plus, minus, times, and, or, xor, less, less_or_equal, shift_left, shift_right, equal, unequal, both, either}
use Rattle.rules.specs.Syntax.{Operator, arithmetic, order, shift, equality, logic, Place, local, parameter, global, field}
use Rattle.rules.specs.Syntax.{Args, no_args, arg, Stmts, no_stmts, stmt}

-- the type that a number stands for: 0 is bool, any other is bits of that width
unfoldable pub ty_of : ℕ → Ty
ty_of zero = bool
ty_of (suc n) = bits (suc n)

-- header type h among the types of globals
unfoldable pub header_number : ℕ → ℕ
header_number h = 128 + h

unfoldable pub direction_number : Direction → ℕ
direction_number by_none = 0
direction_number by_in = 1
direction_number by_out = 2
direction_number by_inout = 3

unfoldable pub key_kind_number : KeyKind → ℕ
key_kind_number exact = 0
key_kind_number lpm = 1
key_kind_number ternary = 2

-- a callable's kind: an action returns nothing
unfoldable pub callable_kind_number : Option Ty → ℕ
callable_kind_number none = 0
callable_kind_number (some t) = 1

unfoldable pub operator_number : Operator → ℕ
operator_number (arithmetic plus) = 0
operator_number (arithmetic minus) = 1
operator_number (arithmetic times) = 2
operator_number (arithmetic and) = 3
operator_number (arithmetic or) = 4
operator_number (arithmetic xor) = 5
operator_number (shift shift_left) = 6
operator_number (shift shift_right) = 7
operator_number (equality equal) = 8
operator_number (equality unequal) = 9
operator_number (order less) = 10
operator_number (order less_or_equal) = 11
operator_number (logic both) = 12
operator_number (logic either) = 13

-- the tag of a place
unfoldable pub place_tag : Place → ℕ
place_tag (local i) = 2
place_tag (parameter i) = 3
place_tag (global g) = 4
place_tag (field g f) = 5

-- how many arguments and members there are
unfoldable pub arg_count : Args → ℕ
arg_count no_args = 0
arg_count (arg e es) = suc (arg_count es)

unfoldable pub member_count : Stmts → ℕ
member_count no_stmts = 0
member_count (stmt s ss) = suc (member_count ss)
