-- The refusals of the judge's parts have numbers from 1 to 12 or 16, and places lie within the file.
use mathlib.Core.Path.{refl}
use mathlib.Core.Bool.{Bool, true, false, ◌||◌}
use mathlib.Core.Option.{Option, none, some}
use Prim.Native.Nat.{ℕ, zero, suc, ◌+◌, ◌*◌, ◌^◌, ◌≤◌}
use native.Mathlib.Omega.{arith}
use mathlib.Core.List.{List, [], ◌∷◌}
use lib.Dec.{ltb, leb, eqb}
use lib.ListN.{get_elem?, length}
use Rattle.rules.specs.Numbers.{Stream, numbers, broken, Group, more, last, wrong, group_of, with_first, end_at, stream_from, stream_of, most_bytes, place_of}
use Rattle.rules.specs.Syntax.{Ty, bool, bits, Operator, arithmetic, order, shift, equality, logic, Place, local, parameter, global, field}
use Rattle.rules.specs.Syntax.{Expr, bool_literal, bits_literal, read_of, valid_of, negation, complement, binary, cast, slice, concatenation, call_expr, Args, no_args, arg}
use Rattle.rules.specs.Syntax.{Stmt, empty, assign, if_else, block, call_stmt, apply, return_value, return, exit, set_valid, set_invalid, extract, verify, Stmts, no_stmts, stmt}
use Rattle.rules.specs.Syntax.{Global, Parameter, Callable, Numeral, Key, Table, Pair, Transition, no_transition, accept, reject, lead_to, select, ParserState, Program}
use Rattle.rules.specs.Reading.{Reader, PlaceTag, tag_local, tag_parameter, tag_global, tag_field, ExprTag, tag_bool, tag_bits, tag_place, tag_valid, tag_not, tag_complement, tag_binary, tag_cast, tag_slice, tag_concatenation, tag_call}
use Rattle.rules.specs.Reading.{StmtTag, tag_empty, tag_assign, tag_if, tag_block, tag_call_stmt, tag_apply, tag_return_value, tag_return, tag_exit, tag_set_valid, tag_set_invalid, tag_extract, tag_verify, CallableKind, kind_action, kind_function, TransitionTag, tag_none, tag_accept, tag_reject, tag_lead_to, tag_select}
use Rattle.rules.specs.Reading as Reading
use Rattle.rules.specs.Form.{Res, ok, fault, ◌>>=◌, named, need, Shape, a_variable, a_header, Body, in_function, in_action, in_apply, in_state, Scope, Given}
use Rattle.rules.specs.Form as Form
use Rattle.rules.proofs.Predicates.{JudgeGives, gives, IfGot, is_got, is_bad, if-any, Reads, reads_then, reads-pure, reads-looked-up}

-- a reader whose faults the judge gives
abbrev Answers : {A : Type 0} → Reader A → Type 0
Answers read = Reads (λ _. Unit {0}) read

then-reads : {A B : Type 0} {read : Reader A} {k : A → Reader B} → Answers read → ((a : A) → Answers (k a))
    → Answers (Reading.◌>>=◌ read k)
then-reads h k = reads_then h λ a _. k a

pure-reads : {A : Type 0} (a : A) → Answers (Reading.pure a)
pure-reads a = reads-pure a tt

here_reads : Answers Reading.here
unfolding Reading.here
here_reads = record { reads = λ left at. is_got tt }

looked-up : {A : Type 0} (number : ℕ) → JudgeGives number → (what : ℕ → Option A)
    → Answers (Reading.looked_up number what)
looked-up number q what = reads-looked-up number q λ n. if-any (what n)

number_at : (left : List ℕ) (at : ℕ) → IfGot (λ _. Unit {0}) (Reading.number left at)
unfolding Reading.number
number_at [] at = is_bad (gives 4 refl)
number_at (n ∷ left) at = is_got tt

number-reads : Answers Reading.number
number-reads = record { reads = number_at }

stands-for : {A : Type 0} (what : ℕ → Option A) → Answers (Reading.stands_for what)
unfolding Reading.stands_for
stands-for what = looked-up 4 (gives 4 refl) what

between-reads : (least most : ℕ) → Answers (Reading.between least most)
unfolding Reading.between
between-reads least most = stands-for (Reading.within least most)

repeat-reads : {A : Type 0} (n : ℕ) {one : Reader A} → Answers one → Answers (Reading.repeat n one)
unfolding Reading.repeat
repeat-reads zero h = pure-reads []
repeat-reads (suc n) h = then-reads h λ a. then-reads (repeat-reads n h) λ rest. pure-reads (a ∷ rest)

list-reads : {A : Type 0} (least most : ℕ) {one : Reader A} → Answers one → Answers (Reading.list_of least most one)
unfolding Reading.list_of
list-reads least most h = then-reads (between-reads least most) λ n. repeat-reads n h

deep-at : {A : Type 0} (left : List ℕ) (at : ℕ) → IfGot {A = A} (λ _. Unit {0}) (Reading.too_deep left at)
unfolding Reading.too_deep
deep-at [] at = is_bad (gives 4 refl)
deep-at (n ∷ left) at = is_bad (gives 5 refl)

deep-reads : {A : Type 0} → Answers {A = A} Reading.too_deep
deep-reads = record { reads = deep-at }

-- 5 and 4
module _ (version : ℕ) where
  place-reads : (tag : PlaceTag) → Answers (Reading.read_place version tag)
  unfolding Reading.read_place
  place-reads tag_local = then-reads number-reads λ i. pure-reads _
  place-reads tag_parameter = then-reads number-reads λ i. pure-reads _
  place-reads tag_global = then-reads number-reads λ i. pure-reads _
  place-reads tag_field = then-reads number-reads λ g. then-reads number-reads λ f. pure-reads _

  expr-as : (tag : ExprTag) (at : ℕ) {operand : Reader Expr} → Answers operand
      → Answers (Reading.read_expr_as version tag at operand)
  unfolding Reading.read_expr_as
  expr-as tag_bool at h = then-reads number-reads λ n. pure-reads _
  expr-as tag_bits at h = then-reads (between-reads 1 64) λ w. then-reads number-reads λ n. pure-reads _
  expr-as (tag_place t) at h = then-reads (place-reads t) λ p. pure-reads _
  expr-as tag_valid at h = then-reads number-reads λ g. pure-reads _
  expr-as tag_not at h = then-reads h λ a. pure-reads _
  expr-as tag_complement at h = then-reads h λ a. pure-reads _
  expr-as tag_binary at h = then-reads (stands-for _) λ o. then-reads h λ a. then-reads h λ b. pure-reads _
  expr-as tag_cast at h = then-reads (between-reads 1 64) λ w. then-reads h λ a. pure-reads _
  expr-as tag_slice at h = then-reads (between-reads 0 63) λ i. then-reads (between-reads 0 63) λ j. then-reads h λ a.
      pure-reads _
  expr-as tag_concatenation at h = then-reads h λ a. then-reads h λ b. pure-reads _
  expr-as tag_call at h = then-reads number-reads λ f. then-reads (list-reads 0 8 h) λ xs. pure-reads _

  expr-reads : (depth : ℕ) → Answers (Reading.read_expr version depth)
  unfolding Reading.read_expr
  expr-reads zero = deep-reads
  expr-reads (suc depth) = then-reads here_reads λ at. then-reads (stands-for _) λ tag.
      expr-as tag at (expr-reads depth)

  target-reads : (depth : ℕ) → Answers (Reading.read_target version depth)
  unfolding Reading.read_target
  target-reads zero = deep-reads
  target-reads (suc depth) = then-reads here_reads λ at. then-reads (stands-for _) λ tag.
      then-reads (place-reads tag) λ p. pure-reads _

  stmt-as : (tag : StmtTag) (at : ℕ) {operand : Reader Expr} {target : Reader (ℕ × Place)} {inner : Reader Stmt}
      → Answers operand → Answers target → Answers inner
      → Answers (Reading.read_stmt_as version tag at operand target inner)
  unfolding Reading.read_stmt_as
  stmt-as tag_empty at e t s = pure-reads _
  stmt-as tag_assign at e t s = then-reads t λ p. then-reads e λ x. pure-reads _
  stmt-as tag_if at e t s = then-reads e λ c. then-reads s λ a. then-reads s λ b. pure-reads _
  stmt-as tag_block at e t s = then-reads (list-reads 0 64 s) λ ss. pure-reads _
  stmt-as tag_call_stmt at e t s = then-reads number-reads λ f. then-reads (list-reads 0 8 e) λ xs. pure-reads _
  stmt-as tag_apply at e t s = then-reads number-reads λ n. pure-reads _
  stmt-as tag_return_value at e t s = then-reads e λ x. pure-reads _
  stmt-as tag_return at e t s = pure-reads _
  stmt-as tag_exit at e t s = pure-reads _
  stmt-as tag_set_valid at e t s = then-reads number-reads λ g. pure-reads _
  stmt-as tag_set_invalid at e t s = then-reads number-reads λ g. pure-reads _
  stmt-as tag_extract at e t s = then-reads number-reads λ g. pure-reads _
  stmt-as tag_verify at e t s = then-reads e λ c. then-reads (between-reads 0 255) λ x. pure-reads _

  stmt-reads : (depth : ℕ) → Answers (Reading.read_stmt version depth)
  unfolding Reading.read_stmt
  stmt-reads zero = deep-reads
  stmt-reads (suc depth) = then-reads here_reads λ at. then-reads (stands-for _) λ tag.
      stmt-as tag at (expr-reads depth) (target-reads depth) (stmt-reads depth)

  header-reads : Answers (Reading.read_header version)
  unfolding Reading.read_header
  header-reads = then-reads here_reads λ at. then-reads (list-reads 1 16 (between-reads 1 64)) λ ws. pure-reads _

  global_reads : Answers (Reading.read_global version)
  unfolding Reading.read_global
  global_reads = then-reads here_reads λ at. then-reads (stands-for _) λ t. pure-reads _

  parameter-reads : Answers (Reading.read_parameter version)
  unfolding Reading.read_parameter
  parameter-reads = then-reads (stands-for _) λ d. then-reads (stands-for _) λ t. pure-reads _

  returns-read : (kind : CallableKind) → Answers (Reading.read_returns version kind)
  unfolding Reading.read_returns
  returns-read kind_action = pure-reads _
  returns-read kind_function = then-reads (stands-for _) λ t. pure-reads _

  callable-reads : Answers (Reading.read_callable version)
  unfolding Reading.read_callable
  callable-reads = then-reads here_reads λ at. then-reads (stands-for _) λ kind. then-reads (returns-read kind) λ r.
      then-reads (list-reads 0 8 parameter-reads) λ ps.
      then-reads (list-reads 0 8 (stands-for _)) λ ls. then-reads (stmt-reads 32) λ body. pure-reads _

  numeral_reads : Answers (Reading.read_numeral version)
  unfolding Reading.read_numeral
  numeral_reads = then-reads here_reads λ at. then-reads number-reads λ n. pure-reads _

  key_reads : Answers (Reading.read_key version)
  unfolding Reading.read_key
  key_reads = then-reads here_reads λ at. then-reads (stands-for _) λ kind. then-reads (expr-reads 32) λ e. pure-reads _

  table-reads : Answers (Reading.read_table version)
  unfolding Reading.read_table
  table-reads = then-reads here_reads λ at. then-reads (list-reads 1 4 key_reads) λ ks.
      then-reads (list-reads 1 8 numeral_reads) λ ns. then-reads numeral_reads λ d.
      then-reads here_reads λ c. then-reads (list-reads 0 8 numeral_reads) λ xs. pure-reads _

  pair_reads : Answers (Reading.read_pair version)
  unfolding Reading.read_pair
  pair_reads = then-reads numeral_reads λ v. then-reads numeral_reads λ s. pure-reads _

  transition-as : (tag : TransitionTag) (at : ℕ) → Answers (Reading.read_transition_as version tag at)
  unfolding Reading.read_transition_as
  transition-as tag_none at = pure-reads _
  transition-as tag_accept at = pure-reads _
  transition-as tag_reject at = then-reads (between-reads 0 255) λ e. pure-reads _
  transition-as tag_lead_to at = then-reads numeral_reads λ s. pure-reads _
  transition-as tag_select at = then-reads (expr-reads 32) λ e. then-reads (list-reads 0 16 pair_reads) λ ps.
      pure-reads _

  state-reads : Answers (Reading.read_state version)
  unfolding Reading.read_state Reading.read_transition
  state-reads = then-reads here_reads λ at. then-reads (stmt-reads 32) λ body. then-reads (then-reads here_reads λ at.
      then-reads (stands-for _) λ tag. transition-as tag at) λ t. pure-reads _

  states-read : Answers (Reading.read_states version)
  unfolding Reading.read_states
  states-read = go (Reading.has_parser version)
    where
      go : (b : Bool) → Answers {A = List ParserState} (elim b [
        | true ↦ Reading.list_of 1 16 (Reading.read_state version)
        | false ↦ Reading.pure []
      ])
      go true = list-reads 1 16 state-reads
      go false = pure-reads []

  after-version : Answers (Reading.read_after_version version)
  unfolding Reading.read_after_version
  after-version = then-reads (list-reads 0 8 header-reads) λ hs. then-reads (list-reads 0 32 global_reads) λ gs.
      then-reads (list-reads 0 16 callable-reads) λ cs.
      then-reads (list-reads 0 8 table-reads) λ ts. then-reads states-read λ ss. then-reads (stmt-reads 32) λ body.
      pure-reads _

pub program-reads : Reads (λ _. Unit {0}) Reading.read_program
unfolding Reading.read_program
program-reads = then-reads (stands-for _) λ v. after-version v

-- 6, 7 and 8
pub data Judging-ok {A : Type 0} : Res A → Type 0 where
  fine : {a : A} → Judging-ok (ok a)
  faulty : {number at : ℕ} → JudgeGives number → Judging-ok {A = A} (fault number at)

then-judges : {A B : Type 0} {r : Res A} {k : A → Res B} → Judging-ok r → ((a : A) → Judging-ok (k a))
    → Judging-ok (r >>= k)
unfolding ◌>>=◌
then-judges fine h = h _
then-judges (faulty q) h = faulty q

names : {A : Type 0} (at : ℕ) (o : Option A) → Judging-ok (named at o)
unfolding named
names at none = faulty (gives 6 refl)
names at (some a) = fine

needs : (number at : ℕ) → JudgeGives number → (b : Bool) → Judging-ok (need number at b)
unfolding need
needs number at q true = fine
needs number at q false = faulty q

types : (at : ℕ) (t u : Ty) → Judging-ok (Form.need_ty at t u)
unfolding Form.need_ty
types at t u = needs 7 at (gives 7 refl) _

widths : (at : ℕ) (t : Ty) → Judging-ok (Form.width_at at t)
unfolding Form.width_at
widths at bool = faulty (gives 7 refl)
widths at (bits w) = fine

variable-judged : (at : ℕ) (shape : Shape) → Judging-ok (Form.judge_variable at shape)
unfolding Form.judge_variable
variable-judged at (a_variable t) = fine
variable-judged at (a_header ws) = faulty (gives 7 refl)

field-judged : (at f : ℕ) (shape : Shape) → Judging-ok (Form.judge_field at f shape)
unfolding Form.judge_field
field-judged at f (a_variable t) = faulty (gives 7 refl)
field-judged at f (a_header ws) = then-judges (names (suc (suc at)) (get_elem? ws f)) λ w. fine

header-judged : (at : ℕ) (shape : Shape) → Judging-ok (Form.judge_header at shape)
unfolding Form.judge_header
header-judged at (a_variable t) = faulty (gives 7 refl)
header-judged at (a_header ws) = fine

extracted-judged : (at : ℕ) (shape : Shape) → Judging-ok (Form.judge_extracted at shape)
unfolding Form.judge_extracted
extracted-judged at (a_variable t) = faulty (gives 7 refl)
extracted-judged at (a_header ws) = needs 7 at (gives 7 refl) _

module _ (Γ : Scope) where
  global-judged : {A : Type 0} (at g : ℕ) {asked : Shape → Res A} → ((shape : Shape) → Judging-ok (asked shape))
      → Judging-ok (Form.judge_global Γ at g asked)
  unfolding Form.judge_global
  global-judged at g h = then-judges (names (suc at) _) λ shape. then-judges (h shape) λ a.
      then-judges (needs 8 at (gives 8 refl) _) λ _. fine

  place-judged : (at : ℕ) (p : Place) → Judging-ok (Form.judge_place Γ at p)
  unfolding Form.judge_place
  place-judged at (local i) = names (suc at) _
  place-judged at (parameter i) = then-judges (names (suc at) _) λ p. fine
  place-judged at (global g) = global-judged at g (variable-judged at)
  place-judged at (field g f) = global-judged at g (field-judged at f)

  header-at-judged : (at g : ℕ) → Judging-ok (Form.judge_header_at Γ at g)
  unfolding Form.judge_header_at
  header-at-judged at g = global-judged at g (header-judged at)

operator-judged : (at : ℕ) (o : Operator) (t u : Ty) → Judging-ok (Form.judge_operator at o t u)
unfolding Form.judge_operator
operator-judged at (arithmetic o) t u = then-judges (widths at t) λ w. then-judges (types at t u) λ _. fine
operator-judged at (order o) t u = then-judges (widths at t) λ w. then-judges (types at t u) λ _. fine
operator-judged at (shift o) t u = then-judges (widths at t) λ w. then-judges (widths at u) λ _. fine
operator-judged at (equality o) t u = then-judges (types at t u) λ _. fine
operator-judged at (logic o) t u = then-judges (types at bool t) λ _. then-judges (types at bool u) λ _. fine

given-judged : (at : ℕ) (ps : List Parameter) (gs : List Given) → Judging-ok (Form.judge_given at ps gs)
unfolding Form.judge_given
given-judged at ps gs = then-judges (needs 7 at (gives 7 refl) _) λ _. needs 8 at (gives 8 refl) _

function-judged : (at : ℕ) (r : Option Ty) → Judging-ok (Form.function_ty at r)
unfolding Form.function_ty
function-judged at none = faulty (gives 8 refl)
function-judged at (some t) = fine

returned-judged : (at : ℕ) (b : Body) (t : Ty) → Judging-ok (Form.judge_returned at b t)
unfolding Form.judge_returned
returned-judged at (in_function u) t = types at u t
returned-judged at in_action t = faulty (gives 8 refl)
returned-judged at in_apply t = faulty (gives 8 refl)
returned-judged at in_state t = faulty (gives 8 refl)

module _ (Γ : Scope) where
  mutual
    unfolding Form.judge_expr

    expr-judged : (e : Expr) → Judging-ok (Form.judge_expr Γ e)
    expr-judged (bool_literal at n) = then-judges (needs 7 at (gives 7 refl) _) λ _. fine
    expr-judged (bits_literal at w n) = then-judges (needs 7 at (gives 7 refl) _) λ _. fine
    expr-judged (read_of at p) = place-judged Γ at p
    expr-judged (valid_of at g) = then-judges (header-at-judged Γ at g) λ _. fine
    expr-judged (negation at a) = then-judges (expr-judged a) λ t. then-judges (types at bool t) λ _. fine
    expr-judged (complement at a) = then-judges (expr-judged a) λ t. then-judges (widths at t) λ w. fine
    expr-judged (binary at o a b) = then-judges (expr-judged a) λ t. then-judges (expr-judged b) λ u.
        operator-judged at o t u
    expr-judged (cast at w a) = then-judges (expr-judged a) λ t. then-judges (widths at t) λ _. fine
    expr-judged (slice at h l a) = then-judges (expr-judged a) λ t. then-judges (widths at t) λ w.
        then-judges (needs 7 at (gives 7 refl) _) λ _. fine
    expr-judged (concatenation at a b) = then-judges (expr-judged a) λ t. then-judges (expr-judged b) λ u.
        then-judges (widths at t) λ v.
        then-judges (widths at u) λ w. then-judges (needs 7 at (gives 7 refl) _) λ _. fine
    expr-judged (call_expr at f xs) = then-judges (names (suc at) _) λ c. then-judges (args-judged xs) λ gs.
        then-judges (given-judged at c.parameters gs) λ _. then-judges (needs 8 at (gives 8 refl) _) λ _.
        function-judged at c.returns

    args-judged : (xs : Args) → Judging-ok (Form.judge_args Γ xs)
    args-judged no_args = fine
    args-judged (arg e xs) = then-judges (expr-judged e) λ t. then-judges (args-judged xs) λ gs. fine

  mutual
    unfolding Form.judge_stmt

    stmt-judged : (s : Stmt) → Judging-ok (Form.judge_stmt Γ s)
    stmt-judged (empty at) = fine
    stmt-judged (assign at target p e) = then-judges (place-judged Γ target p) λ t. then-judges (expr-judged e) λ u.
        then-judges (types at t u) λ _. needs 8 at (gives 8 refl) _
    stmt-judged (if_else at c a b) = then-judges (expr-judged c) λ t. then-judges (stmt-judged a) λ _.
        then-judges (stmt-judged b) λ _. types at bool t
    stmt-judged (block at ss) = stmts-judged ss
    stmt-judged (call_stmt at f xs) = then-judges (names (suc at) _) λ c. then-judges (args-judged xs) λ gs.
        then-judges (given-judged at c.parameters gs) λ _. needs 8 at (gives 8 refl) _
    stmt-judged (apply at t) = then-judges (names (suc at) _) λ _. needs 8 at (gives 8 refl) _
    stmt-judged (return_value at e) = then-judges (expr-judged e) λ t. returned-judged at Γ.body t
    stmt-judged (return at) = needs 8 at (gives 8 refl) _
    stmt-judged (exit at) = needs 8 at (gives 8 refl) _
    stmt-judged (set_valid at g) = header-at-judged Γ at g
    stmt-judged (set_invalid at g) = header-at-judged Γ at g
    stmt-judged (extract at g) = then-judges (global-judged Γ at g (extracted-judged at)) λ _. needs 8 at (gives 8 refl) _
    stmt-judged (verify at c e) = then-judges (expr-judged c) λ t. then-judges (types at bool t) λ _.
        needs 8 at (gives 8 refl) _

    stmts-judged : (ss : Stmts) → Judging-ok (Form.judge_stmts Γ ss)
    stmts-judged no_stmts = fine
    stmts-judged (stmt s ss) = then-judges (stmt-judged s) λ _. stmts-judged ss

module _ (P : Program) where
  globals-judged : (gs : List Global) → Judging-ok (Form.judge_globals P gs)
  unfolding Form.judge_globals
  globals-judged [] = fine
  globals-judged (g ∷ gs) = then-judges (names g.at _) λ _. globals-judged gs

  callables-judged : (n : ℕ) (cs : List Callable) → Judging-ok (Form.judge_callables P n cs)
  unfolding Form.judge_callables Form.judge_callable
  callables-judged n [] = fine
  callables-judged n (c ∷ cs) = then-judges (then-judges (stmt-judged (Form.scope_of P n c) c.body) λ _.
      needs 8 c.at (gives 8 refl) _) λ _. callables-judged (suc n) cs

  actions-judged : (ns : List Numeral) → Judging-ok (Form.judge_actions P ns)
  unfolding Form.judge_actions
  actions-judged [] = fine
  actions-judged (a ∷ ns) = then-judges (names a.at _) λ c. then-judges (actions-judged ns) λ cs. fine

  keys-judged : (Γ : Scope) (ks : List Key) → Judging-ok (Form.judge_keys Γ ks)
  unfolding Form.judge_keys
  keys-judged Γ [] = fine
  keys-judged Γ (k ∷ ks) = then-judges (expr-judged Γ k.expr) λ t. then-judges (keys-judged Γ ks) λ ts. fine

  bits-judged : (ks : List Key) (ts : List Ty) → Judging-ok (Form.keys_are_bits ks ts)
  unfolding Form.keys_are_bits
  bits-judged [] ts = fine
  bits-judged (k ∷ ks) [] = fine
  bits-judged (k ∷ ks) (t ∷ ts) = then-judges (widths _ t) λ _. bits-judged ks ts

  literals-judged : (ps : List Parameter) (ns : List Numeral) → Judging-ok (Form.literals_fit ps ns)
  unfolding Form.literals_fit
  literals-judged [] ns = fine
  literals-judged (p ∷ ps) [] = fine
  literals-judged (p ∷ ps) (n ∷ ns) = then-judges (needs 7 n.at (gives 7 refl) _) λ _. literals-judged ps ns

  lpm-judged : (seen : Bool) (ks : List Key) → Judging-ok (Form.one_lpm seen ks)
  unfolding Form.one_lpm
  lpm-judged seen [] = fine
  lpm-judged seen (k ∷ ks) = then-judges (needs 8 k.at (gives 8 refl) _) λ _. lpm-judged (seen || Form.is_lpm k.kind) ks

  listed-judged : (ns : List Numeral) (cs : List Callable) → Judging-ok (Form.judge_listed ns cs)
  unfolding Form.judge_listed
  listed-judged [] cs = fine
  listed-judged (a ∷ ns) [] = fine
  listed-judged (a ∷ ns) (c ∷ cs) = then-judges (needs 8 a.at (gives 8 refl) _) λ _. listed-judged ns cs

  table-judged : (T : Table) → Judging-ok (Form.judge_table P T)
  unfolding Form.judge_table
  table-judged T = then-judges (actions-judged T.actions) λ cs. then-judges (names T.default.at _) λ c.
      then-judges (keys-judged (Form.apply_scope P) T.keys) λ ts.
      then-judges (bits-judged T.keys ts) λ _. then-judges (needs 7 T.count_at (gives 7 refl) _) λ _.
      then-judges (literals-judged c.parameters T.arguments) λ _.
      then-judges (lpm-judged false T.keys) λ _. listed-judged T.actions cs

  tables-judged : (Ts : List Table) → Judging-ok (Form.judge_tables P Ts)
  unfolding Form.judge_tables
  tables-judged [] = fine
  tables-judged (T ∷ Ts) = then-judges (table-judged T) λ _. tables-judged Ts

  later-judged : (n : ℕ) (s : Numeral) → Judging-ok (Form.judge_later P n s)
  unfolding Form.judge_later
  later-judged n s = then-judges (names s.at _) λ _. fine

  pairs-judged : (n : ℕ) (ps : List Pair) → Judging-ok (Form.judge_pairs P n ps)
  unfolding Form.judge_pairs
  pairs-judged n [] = fine
  pairs-judged n (p ∷ ps) = then-judges (later-judged n p.state) λ _. pairs-judged n ps

  values-judged : (width : ℕ) (ps : List Pair) → Judging-ok (Form.values_fit width ps)
  unfolding Form.values_fit
  values-judged width [] = fine
  values-judged width (p ∷ ps) = then-judges (needs 7 p.value.at (gives 7 refl) _) λ _. values-judged width ps

  transition-judged : (n : ℕ) (t : Transition) → Judging-ok (Form.judge_transition P n t)
  unfolding Form.judge_transition
  transition-judged n no_transition = fine
  transition-judged n accept = fine
  transition-judged n (reject e) = fine
  transition-judged n (lead_to s) = later-judged n s
  transition-judged n (select at e ps) = then-judges (pairs-judged n ps) λ _.
      then-judges (expr-judged (Form.state_scope P) e) λ t. then-judges (widths _ t) λ w. values-judged w ps

  states-judged : (n : ℕ) (ss : List ParserState) → Judging-ok (Form.judge_states P n ss)
  unfolding Form.judge_states Form.judge_state
  states-judged n [] = fine
  states-judged n (s ∷ ss) = then-judges (then-judges (stmt-judged (Form.state_scope P) s.body) λ _.
      transition-judged n s.transition) λ _. states-judged (suc n) ss

  pub program-judged : Judging-ok (Form.judge_program P)
  unfolding Form.judge_program
  program-judged = then-judges (globals-judged P.globals) λ _. then-judges (callables-judged 0 P.callables) λ _.
      then-judges (tables-judged P.tables) λ _. then-judges (states-judged 0 P.states) λ _.
      stmt-judged (Form.apply_scope P) P.body

-- places lie within the file
pub place-within : (bytes : List ℕ) (i : ℕ) → place_of bytes i ≤ length bytes
unfolding place_of
place-within [] i = omega arith
place-within (b ∷ bytes) zero = omega arith
place-within (b ∷ bytes) (suc i) = go (leb 128 b) (place-within bytes (suc i)) (place-within bytes i)
  where
    go : (t : Bool) → place_of bytes (suc i) ≤ length bytes → place_of bytes i ≤ length bytes
        → elim t [ true ↦ suc (place_of bytes (suc i)) | false ↦ suc (place_of bytes i) ] ≤ suc (length bytes)
    go true h k = omega arith
    go false h k = omega arith

-- 1, 2 and 3
pub data Stream-ok (most : ℕ) : Stream → Type 0 where
  whole : {ns : List ℕ} → Stream-ok most (numbers ns)
  breaks : {number place : ℕ} → JudgeGives number → place ≤ most → Stream-ok most (broken number place)

first-ok : {most : ℕ} (n : ℕ) {s : Stream} → Stream-ok most s → Stream-ok most (with_first n s)
unfolding with_first
first-ok n whole = whole
first-ok n (breaks q p) = breaks q p

end-ok : (most place before : ℕ) → place ≤ most → Stream-ok most (end_at place before)
unfolding end_at
end-ok most place zero h = whole
end-ok most place (suc before) h = breaks (gives 2 refl) h

stream-from : (most : ℕ) (bytes : List ℕ) (place before value : ℕ) → place + (before + length bytes) ≤ most
    → Stream-ok most (stream_from place before value bytes)
unfolding stream_from
stream-from most [] place before value h = end-ok most place before (omega arith)
stream-from most (b ∷ bytes) place before value h = go (group_of before b) (λ v.
    stream-from most bytes place (suc before) v (omega arith)) (stream-from most bytes (place + suc before) 0 0
    (omega arith))
  where
    go : (g : Group) → ((v : ℕ) → Stream-ok most (stream_from place (suc before) v bytes))
        → Stream-ok most (stream_from (place + suc before) 0 0 bytes)
        → Stream-ok most (elim g [
          | more d ↦ stream_from place (suc before) (value + d * 128 ^ before) bytes
          | last d ↦ with_first (value + d * 128 ^ before) (stream_from (place + suc before) 0 0 bytes)
          | wrong ↦ broken 3 place
        ])
    go (more d) k r = k (value + d * 128 ^ before)
    go (last d) k r = first-ok (value + d * 128 ^ before) r
    go wrong k r = breaks {place = place} (gives 3 refl) (omega arith)

pub stream-ok : (bytes : List ℕ) → Stream-ok (length bytes) (stream_of bytes)
unfolding stream_of
stream-ok bytes = go (eqb (length bytes) 0 || ltb most_bytes (length bytes)) (stream-from (length bytes) bytes 0 0 0
    (omega arith))
  where
    go : (t : Bool) → Stream-ok (length bytes) (stream_from 0 0 0 bytes)
        → Stream-ok (length bytes) (elim t [ true ↦ broken 1 0 | false ↦ stream_from 0 0 0 bytes ])
    go true h = breaks {place = 0} (gives 1 refl) (omega arith)
    go false h = h
