-- Reading a program from the list of numbers (document 01, "The bench file"; refusals 5 and 4; document 02, E2). A
-- reader takes the numbers that are left and the index of the first of them. It gives what it read, or the fault with
-- its index: the first one in file order, 5 before 4 at one number.
use Rattle.std.specs.Prelude.{Bool, true, false, ◌&&◌, ℕ, zero, suc, ◌-◌, List, [], ◌∷◌, leb}
use Rattle.std.proofs.Math.Option.{Option, none, some}
use Rattle.std.proofs.Math.ListN.{get_elem?}
use Rattle.rules.specs.Words.{widest}
use Rattle.rules.specs.Syntax.{Ty, bool, bits, GlobalTy, variable, header, Direction, by_none, by_in, by_out, by_inout, KeyKind, exact, lpm, ternary}
use Rattle.rules.specs.Syntax.{plus, minus, times, and, or, xor, less, less_or_equal, shift_left, shift_right, equal, unequal, both, either}
use Rattle.rules.specs.Syntax.{Operator, arithmetic, order, shift, equality, logic, Place, local, parameter, global, field}
use Rattle.rules.specs.Syntax.{Expr, bool_literal, bits_literal, read_of, valid_of, negation, complement, binary, cast, slice, concatenation, call_expr, Args, no_args, arg}
use Rattle.rules.specs.Syntax.{Stmt, empty, assign, if_else, block, call_stmt, apply, return_value, return, exit, set_valid, set_invalid, extract, verify, Stmts, no_stmts, stmt}
use Rattle.rules.specs.Syntax.{HeaderTy, Global, Parameter, Callable, Numeral, Key, Table, Pair, Transition, no_transition, accept, reject, lead_to, select, ParserState, Program}

infixl 20 ◌>>=◌
-- what was read with the numbers left and their index; or a fault and its index
pub data Got (A : Type 0) : Type 0 where
  got : A → List ℕ → ℕ → Got A
  bad : ℕ → ℕ → Got A

abbrev pub Reader : Type 0 → Type 0
Reader A = List ℕ → ℕ → Got A

unfoldable pub and_then : {A B : Type 0} → Got A → (A → Reader B) → Got B
and_then (got a left at) k = k a left at
and_then (bad number at) k = bad number at

unfoldable pub ◌>>=◌ : {A B : Type 0} → Reader A → (A → Reader B) → Reader B
◌>>=◌ read k left at = and_then (read left at) k

unfoldable pub pure : {A : Type 0} → A → Reader A
pure a left at = got a left at

-- the index of the next number
unfoldable pub here : Reader ℕ
here left at = got at left at

unfoldable pub number : Reader ℕ
number [] at = bad 4 at
number (n ∷ left) at = got n left (suc at)

-- a number that stands for something, with the fault that is given where it stands for nothing or is missing
unfoldable pub meaning : {A : Type 0} → ℕ → Option A → Reader A
meaning fault none left at = bad fault at
meaning fault (some a) left at = got a left (suc at)

unfoldable pub looked_up : {A : Type 0} → ℕ → (ℕ → Option A) → Reader A
looked_up fault what [] at = bad fault at
looked_up fault what (n ∷ left) at = meaning fault (what n) left at

unfoldable pub stands_for : {A : Type 0} → (ℕ → Option A) → Reader A
stands_for = looked_up 4

-- a number from a least to a most
unfoldable pub within : ℕ → ℕ → ℕ → Option ℕ
within least most n = elim (leb least n && leb n most) [ true ↦ some n | false ↦ none ]

unfoldable pub between : ℕ → ℕ → Reader ℕ
between least most = stands_for (within least most)

-- a list: its count, then its members
unfoldable pub repeat : {A : Type 0} → ℕ → Reader A → Reader (List A)
repeat zero one = pure []
repeat (suc n) one = one >>= λ a. repeat n one >>= λ rest. pure (a ∷ rest)

unfoldable pub list_of : {A : Type 0} → ℕ → ℕ → Reader A → Reader (List A)
list_of least most one = between least most >>= λ n. repeat n one

-- a tag below the deepest level
unfoldable pub too_deep : {A : Type 0} → Reader A
too_deep [] at = bad 4 at
too_deep (n ∷ left) at = bad 5 at

-- bodies and keys have depth 1, and this is the deepest
abbrev pub deepest : ℕ
deepest = 32

-- the most members of each list
abbrev pub most_headers : ℕ
most_headers = 8

abbrev pub most_fields : ℕ
most_fields = 16

abbrev pub most_globals : ℕ
most_globals = 32

abbrev pub most_callables : ℕ
most_callables = 16

abbrev pub most_parameters : ℕ
most_parameters = 8

abbrev pub most_locals : ℕ
most_locals = 8

abbrev pub most_tables : ℕ
most_tables = 8

abbrev pub most_keys : ℕ
most_keys = 4

abbrev pub most_actions : ℕ
most_actions = 8

abbrev pub most_arguments : ℕ
most_arguments = 8

abbrev pub most_members : ℕ
most_members = 64

abbrev pub most_states : ℕ
most_states = 16

abbrev pub most_pairs : ℕ
most_pairs = 16

-- the largest error
abbrev pub most_error : ℕ
most_error = 255

-- the highest bound of a slice
abbrev pub highest_bound : ℕ
highest_bound = 63

-- the lists of the page, by position; a later version changes them and nothing else
pub data PlaceTag : Type 0 where
  tag_local tag_parameter tag_global tag_field : PlaceTag

pub data ExprTag : Type 0 where
  tag_bool tag_bits : ExprTag
  tag_place : PlaceTag → ExprTag
  tag_valid tag_not tag_complement tag_binary tag_cast tag_slice tag_concatenation tag_call : ExprTag

pub data StmtTag : Type 0 where
  tag_empty tag_assign tag_if tag_block tag_call_stmt tag_apply tag_return_value tag_return tag_exit : StmtTag
  tag_set_valid tag_set_invalid tag_extract tag_verify : StmtTag

pub data CallableKind : Type 0 where
  kind_action kind_function : CallableKind

pub data TransitionTag : Type 0 where
  tag_none tag_accept tag_reject tag_lead_to tag_select : TransitionTag

unfoldable pub version_of : ℕ → Option ℕ
version_of = within 1 2

-- from version 2 on a file has a parser block, and its statements
unfoldable pub has_parser : ℕ → Bool
has_parser version = leb 2 version

module _ (version : ℕ) where
  abbrev pub expr_tags : List ExprTag
  expr_tags = tag_bool ∷ tag_bits ∷ tag_place tag_local ∷ tag_place tag_parameter ∷ tag_place tag_global ∷ tag_place tag_field
      ∷ tag_valid ∷ tag_not ∷ tag_complement ∷ tag_binary ∷ tag_cast ∷ tag_slice ∷ tag_concatenation ∷ tag_call ∷ []

  abbrev pub operators : List Operator
  operators = arithmetic plus ∷ arithmetic minus ∷ arithmetic times ∷ arithmetic and ∷ arithmetic or ∷ arithmetic xor
      ∷ shift shift_left ∷ shift shift_right ∷ equality equal ∷ equality unequal ∷ order less ∷ order less_or_equal
      ∷ logic both ∷ logic either ∷ []

  unfoldable pub parser_tags : List StmtTag
  parser_tags = elim (has_parser version) [ true ↦ tag_extract ∷ tag_verify ∷ [] | false ↦ [] ]

  abbrev pub stmt_tags : List StmtTag
  stmt_tags = tag_empty ∷ tag_assign ∷ tag_if ∷ tag_block ∷ tag_call_stmt ∷ tag_apply ∷ tag_return_value ∷ tag_return ∷ tag_exit
      ∷ tag_set_valid ∷ tag_set_invalid ∷ parser_tags

  abbrev pub transition_tags : List TransitionTag
  transition_tags = tag_none ∷ tag_accept ∷ tag_reject ∷ tag_lead_to ∷ tag_select ∷ []

  abbrev pub callable_kinds : List CallableKind
  callable_kinds = kind_action ∷ kind_function ∷ []

  abbrev pub directions : List Direction
  directions = by_none ∷ by_in ∷ by_out ∷ by_inout ∷ []

  abbrev pub key_kinds : List KeyKind
  key_kinds = exact ∷ lpm ∷ ternary ∷ []

  -- the widths of header fields, of bits literals, of casts
  abbrev pub field_width : Reader ℕ
  field_width = between 1 widest

  abbrev pub literal_width : Reader ℕ
  literal_width = between 1 widest

  abbrev pub cast_width : Reader ℕ
  cast_width = between 1 widest

  -- 0 is bool, 1 to 64 is bits
  unfoldable pub bits_of : Option ℕ → Option Ty
  bits_of none = none
  bits_of (some width) = some (bits width)

  unfoldable pub type_of : ℕ → Option Ty
  type_of zero = some bool
  type_of (suc n) = bits_of (within 1 widest (suc n))

  -- a global may also be of header type 0 to 7, written 128 to 135
  unfoldable pub or_header : ℕ → Option Ty → Option GlobalTy
  or_header n none = elim (leb 128 n && leb n 135) [ true ↦ some (header (n - 128)) | false ↦ none ]
  or_header n (some t) = some (variable t)

  unfoldable pub global_type_of : ℕ → Option GlobalTy
  global_type_of n = or_header n (type_of n)

  -- a target's tag is 2 to 5
  unfoldable pub place_tag_of : Option ExprTag → Option PlaceTag
  place_tag_of none = none
  place_tag_of (some tag_bool) = none
  place_tag_of (some tag_bits) = none
  place_tag_of (some (tag_place t)) = some t
  place_tag_of (some tag_valid) = none
  place_tag_of (some tag_not) = none
  place_tag_of (some tag_complement) = none
  place_tag_of (some tag_binary) = none
  place_tag_of (some tag_cast) = none
  place_tag_of (some tag_slice) = none
  place_tag_of (some tag_concatenation) = none
  place_tag_of (some tag_call) = none

  unfoldable pub read_place : PlaceTag → Reader Place
  read_place tag_local = number >>= λ i. pure (local i)
  read_place tag_parameter = number >>= λ i. pure (parameter i)
  read_place tag_global = number >>= λ g. pure (global g)
  read_place tag_field = number >>= λ g. number >>= λ f. pure (field g f)

  unfoldable pub to_args : List Expr → Args
  to_args [] = no_args
  to_args (e ∷ es) = arg e (to_args es)

  unfoldable pub to_stmts : List Stmt → Stmts
  to_stmts [] = no_stmts
  to_stmts (s ∷ ss) = stmt s (to_stmts ss)

  -- what stands behind an expression's tag; `operand` reads an expression one level down
  unfoldable pub read_expr_as : ExprTag → ℕ → Reader Expr → Reader Expr
  read_expr_as tag_bool at operand = number >>= λ n. pure (bool_literal at n)
  read_expr_as tag_bits at operand = literal_width >>= λ width. number >>= λ n. pure (bits_literal at width n)
  read_expr_as (tag_place t) at operand = read_place t >>= λ p. pure (read_of at p)
  read_expr_as tag_valid at operand = number >>= λ g. pure (valid_of at g)
  read_expr_as tag_not at operand = operand >>= λ a. pure (negation at a)
  read_expr_as tag_complement at operand = operand >>= λ a. pure (complement at a)
  read_expr_as tag_binary at operand = stands_for (get_elem? operators) >>= λ o. operand >>= λ a. operand >>= λ b.
      pure (binary at o a b)
  read_expr_as tag_cast at operand = cast_width >>= λ width. operand >>= λ a. pure (cast at width a)
  read_expr_as tag_slice at operand = between 0 highest_bound >>= λ high. between 0 highest_bound >>= λ low. operand >>= λ a.
      pure (slice at high low a)
  read_expr_as tag_concatenation at operand = operand >>= λ a. operand >>= λ b. pure (concatenation at a b)
  read_expr_as tag_call at operand = number >>= λ f. list_of 0 most_arguments operand >>= λ xs.
      pure (call_expr at f (to_args xs))

  -- with so many levels allowed
  unfoldable pub read_expr : ℕ → Reader Expr
  read_expr zero = too_deep
  read_expr (suc depth) = do at ← here; tag ← stands_for (get_elem? expr_tags); read_expr_as tag at (read_expr depth)

  -- an assignment's target, with its own tag's index
  unfoldable pub read_target : ℕ → Reader (ℕ × Place)
  read_target zero = too_deep
  read_target (suc depth) = do
    at ← here
    tag ← stands_for (λ n. place_tag_of (get_elem? expr_tags n))
    p ← read_place tag
    pure (at, p)

  -- what stands behind a statement's tag; `operand`, `target` and `inner` read one level down
  unfoldable pub read_stmt_as : StmtTag → ℕ → Reader Expr → Reader (ℕ × Place) → Reader Stmt → Reader Stmt
  read_stmt_as tag_empty at operand target inner = pure (empty at)
  read_stmt_as tag_assign at operand target inner = target >>= λ p. operand >>= λ e. pure (assign at p.0 p.1 e)
  read_stmt_as tag_if at operand target inner = operand >>= λ c. inner >>= λ a. inner >>= λ b. pure (if_else at c a b)
  read_stmt_as tag_block at operand target inner = list_of 0 most_members inner >>= λ ss. pure (block at (to_stmts ss))
  read_stmt_as tag_call_stmt at operand target inner = number >>= λ f. list_of 0 most_arguments operand >>= λ xs.
      pure (call_stmt at f (to_args xs))
  read_stmt_as tag_apply at operand target inner = number >>= λ t. pure (apply at t)
  read_stmt_as tag_return_value at operand target inner = operand >>= λ e. pure (return_value at e)
  read_stmt_as tag_return at operand target inner = pure (return at)
  read_stmt_as tag_exit at operand target inner = pure (exit at)
  read_stmt_as tag_set_valid at operand target inner = number >>= λ g. pure (set_valid at g)
  read_stmt_as tag_set_invalid at operand target inner = number >>= λ g. pure (set_invalid at g)
  read_stmt_as tag_extract at operand target inner = number >>= λ g. pure (extract at g)
  read_stmt_as tag_verify at operand target inner = operand >>= λ c. between 0 most_error >>= λ e. pure (verify at c e)

  unfoldable pub read_stmt : ℕ → Reader Stmt
  read_stmt zero = too_deep
  read_stmt (suc depth) = do
    at ← here
    tag ← stands_for (get_elem? stmt_tags)
    read_stmt_as tag at (read_expr depth) (read_target depth) (read_stmt depth)

  unfoldable pub read_header : Reader HeaderTy
  read_header = do at ← here; widths ← list_of 1 most_fields field_width; pure (record { at = at; widths = widths })

  unfoldable pub read_global : Reader Global
  read_global = do at ← here; ty ← stands_for global_type_of; pure (record { at = at; ty = ty })

  unfoldable pub read_parameter : Reader Parameter
  read_parameter = do
    direction ← stands_for (get_elem? directions)
    ty ← stands_for type_of
    pure (record { direction = direction; ty = ty })

  -- a function's return type
  unfoldable pub read_returns : CallableKind → Reader (Option Ty)
  read_returns kind_action = pure none
  read_returns kind_function = stands_for type_of >>= λ t. pure (some t)

  unfoldable pub read_callable : Reader Callable
  read_callable = do
    at ← here
    kind ← stands_for (get_elem? callable_kinds)
    returns ← read_returns kind
    parameters ← list_of 0 most_parameters read_parameter
    locals ← list_of 0 most_locals (stands_for type_of)
    body ← read_stmt deepest
    pure (record { at = at; returns = returns; parameters = parameters; locals = locals; body = body })

  unfoldable pub read_numeral : Reader Numeral
  read_numeral = do at ← here; n ← number; pure (record { at = at; number = n })

  unfoldable pub read_key : Reader Key
  read_key = do
    at ← here
    kind ← stands_for (get_elem? key_kinds)
    expr ← read_expr deepest
    pure (record { at = at; kind = kind; expr = expr })

  unfoldable pub read_table : Reader Table
  read_table = do
    at ← here
    keys ← list_of 1 most_keys read_key
    actions ← list_of 1 most_actions read_numeral
    default ← read_numeral
    count_at ← here
    arguments ← list_of 0 most_arguments read_numeral
    pure (record {
      at = at;
      keys = keys;
      actions = actions;
      default = default;
      count_at = count_at;
      arguments = arguments;
    })

  -- the parser block: each state is a statement and a transition
  unfoldable pub read_pair : Reader Pair
  read_pair = read_numeral >>= λ value. read_numeral >>= λ state. pure (record { value = value; state = state })

  unfoldable pub read_transition_as : TransitionTag → ℕ → Reader Transition
  read_transition_as tag_none at = pure no_transition
  read_transition_as tag_accept at = pure accept
  read_transition_as tag_reject at = between 0 most_error >>= λ e. pure (reject e)
  read_transition_as tag_lead_to at = read_numeral >>= λ state. pure (lead_to state)
  read_transition_as tag_select at = read_expr deepest >>= λ e. list_of 0 most_pairs read_pair >>= λ ps.
      pure (select at e ps)

  unfoldable pub read_transition : Reader Transition
  read_transition = do at ← here; tag ← stands_for (get_elem? transition_tags); read_transition_as tag at

  unfoldable pub read_state : Reader ParserState
  read_state = do
    at ← here
    body ← read_stmt deepest
    transition ← read_transition
    pure (record { at = at; body = body; transition = transition })

  unfoldable pub read_states : Reader (List ParserState)
  read_states = elim (has_parser version) [ true ↦ list_of 1 most_states read_state | false ↦ pure [] ]

  unfoldable pub read_after_version : Reader Program
  read_after_version = do
    headers ← list_of 0 most_headers read_header
    globals ← list_of 0 most_globals read_global
    callables ← list_of 0 most_callables read_callable
    tables ← list_of 0 most_tables read_table
    states ← read_states
    body ← read_stmt deepest
    pure (record {
      version = version;
      headers = headers;
      globals = globals;
      callables = callables;
      tables = tables;
      states = states;
      body = body;
    })

unfoldable pub read_program : Reader Program
read_program = stands_for version_of >>= λ version. read_after_version version
