-- What the functions below the judgement of a program ask and promise one another: each answers what the rules' page
-- Form says of the part that stands where the function looks, whatever part and program stand there.
use Rattle.std.specs.Prelude.{Bool, false, ◌≡◌, List, [], ◌∷◌, ℕ, zero, suc, ◌+◌, ◌*◌, ◌≤◌, ◌<◌, eqb, length, drop, Result, Ok, Err, Some, None}
use Rattle.std.specs.Prelude.{Option as Optional}
use Rattle.std.proofs.Math.Option.{some}
use Rattle.std.proofs.Math.ListN.{get_elem?}
use Rattle.std.proofs.lemmas.List.Edits.{sets}
use Rattle.rules.specs.declared.Fault.{Fault}
use Rattle.rules.specs.Answers.{number_of}
use Rattle.rules.specs.Numbers.{most_bytes}
use Rattle.rules.specs.Syntax.{Expr, Global, Parameter, Callable, Numeral, Key, Table, Program}
use Rattle.rules.specs.Reading.{deepest, most_keys, most_tables}
use Rattle.rules.specs.Form.{Res, ok, fault, ◌>>=◌, named, need, shape_in, judge_expr, judge_stmt, width_at, judge_globals, apply_scope, judge_actions, judge_keys, keys_are_bits, literals_fit, one_lpm, table_gives_all, judge_listed, judge_table, judge_tables, judge_states}
use Rattle.program.specs.Codes.{ty_of}
use Rattle.program.specs.Stands.{StandsExpr, StandsParameters, StandsNumerals, StandsKeys, StandsProgram}
use Rattle.program.specs.Looks.{tables_of, FoundTable}
use Rattle.bodies.specs.Claims.{Typed, told_ty}
use Rattle.form.specs.Claims.{Formal, told_form, key_widths, lay_tables, widths_left}

-- an answer is the rules'
pub record Says (r : Formal) (is : Res (Unit {0})) : Type 0 where
  pub judged : told_form r ≡ is

-- a part of a program, by its number in its list, and the parts from a number on
pub record JudgesPart {A : Type 0} (list : Program → List A) (one : Program → ℕ → A → Res (Unit {0}))
    (nums directory ends : List ℕ) (i : ℕ) (r : Formal) : Type 0 where
  pub judged : (P : Program) (end : ℕ) (x : A) → StandsProgram nums directory ends P end → get_elem? (list P) i ≡ some x
      → told_form r ≡ one P i x

pub record JudgesParts {A : Type 0} (list : Program → List A) (all : Program → ℕ → List A → Res (Unit {0}))
    (nums directory ends : List ℕ) (i : ℕ) (r : Formal) : Type 0 where
  pub judged : (P : Program) (end : ℕ) → StandsProgram nums directory ends P end
      → told_form r ≡ all P i (drop i (list P))

-- globals
unfoldable pub global_is : Program → ℕ → Global → Res (Unit {0})
global_is P g x = named x.at (shape_in P x.ty) >>= λ _. ok tt

unfoldable pub globals_are : Program → ℕ → List Global → Res (Unit {0})
globals_are P g xs = judge_globals P xs

-- the apply body, and the expression of a key, which see the same
pub record JudgesApply (nums directory ends : List ℕ) (r : Formal) : Type 0 where
  pub judged : (P : Program) (end : ℕ) → StandsProgram nums directory ends P end
      → told_form r ≡ judge_stmt (apply_scope P) P.body

pub record AsksKey (nums directory ends : List ℕ) (at : ℕ) : Type 0 where
  pub program : Program
  pub end : ℕ
  pub expr : Expr
  pub stands : StandsProgram nums directory ends program end
  pub expr_stands : StandsExpr nums ends deepest at expr

pub record JudgesKey (nums directory ends : List ℕ) (at : ℕ) (r : Typed) : Type 0 where
  pub judged : (P : Program) (end : ℕ) (e : Expr) → StandsProgram nums directory ends P end
      → StandsExpr nums ends deepest at e → told_ty r ≡ judge_expr (apply_scope P) e

-- keys: first that each is judged, then that each is bits
abbrev pub Keyed : Type 0
Keyed = Result (Optional ℕ) Fault

unfoldable pub told_keys : Keyed → Res (Res (Unit {0}))
told_keys (Ok None) = ok (ok tt)
told_keys (Ok (Some index)) = ok (fault 7 index)
told_keys (Err f) = fault (number_of f.reason) f.index

-- where the first key stands that is a bool, of those before one and that one
unfoldable pub first_bool_of : Optional ℕ → ℕ → ℕ → Optional ℕ
first_bool_of (Some index) at t = Some index
first_bool_of None at zero = Some at
first_bool_of None at (suc width) = None

pub record WithFirst (at t : ℕ) (rest r : Keyed) : Type 0 where
  pub judged : told_keys r ≡ (told_keys rest >>= λ later. ok (width_at at (ty_of t) >>= λ _. later))

pub record KeysAt (nums ends : List ℕ) (at count : ℕ) (ks : List Key) : Type 0 where
  pub stand : StandsKeys nums ends at ks
  pub counted : count ≡ length ks

pub record AsksKeys (nums directory ends : List ℕ) (at count slot : ℕ) : Type 0 where
  pub program : Program
  pub end : ℕ
  pub keys : List Key
  pub stands : StandsProgram nums directory ends program end
  pub keys_stand : KeysAt nums ends at count keys
  pub slots : slot + count ≤ most_keys * most_tables

pub record JudgesKeys (nums directory ends : List ℕ) (at count slot : ℕ) (widths widths' : List ℕ) (r : Keyed)
    : Type 0 where
  pub judged : (P : Program) (end : ℕ) (ks : List Key) → StandsProgram nums directory ends P end
      → KeysAt nums ends at count ks
      → told_keys r ≡ (judge_keys (apply_scope P) ks >>= λ ts. ok (keys_are_bits ks ts))
  pub laid : r ≡ Ok None → (P : Program) (end : ℕ) (ks : List Key) → StandsProgram nums directory ends P end
      → KeysAt nums ends at count ks → widths' ≡ sets widths slot (key_widths P ks)

-- kinds of keys
pub record AsksKinds (nums ends : List ℕ) (at count : ℕ) : Type 0 where
  pub keys : List Key
  pub keys_stand : KeysAt nums ends at count keys
  pub numbers : length nums ≤ most_bytes
  pub room : length nums ≤ length ends

pub record JudgesKinds (nums ends : List ℕ) (at count : ℕ) (seen : Bool) (r : Formal) : Type 0 where
  pub judged : (ks : List Key) → KeysAt nums ends at count ks → told_form r ≡ one_lpm seen ks

-- numbers one after the other: a table's actions, its default's arguments
pub record NumeralsAt (nums : List ℕ) (at count : ℕ) (ns : List Numeral) : Type 0 where
  pub stand : StandsNumerals nums at ns
  pub counted : count ≡ length ns

pub record ParametersAt (nums : List ℕ) (at count : ℕ) (ps : List Parameter) : Type 0 where
  pub stand : StandsParameters nums at ps
  pub counted : count ≡ length ps

-- listed actions: that there are such callables
pub record AsksExist (nums : List ℕ) (at count : ℕ) : Type 0 where
  pub numerals : List Numeral
  pub stand : NumeralsAt nums at count numerals
  pub numbers : length nums ≤ most_bytes

pub record JudgesExist (nums directory : List ℕ) (at count : ℕ) (r : Formal) : Type 0 where
  pub judged : (ends : List ℕ) (P : Program) (end : ℕ) (ns : List Numeral) → StandsProgram nums directory ends P end
      → NumeralsAt nums at count ns → told_form r ≡ (judge_actions P ns >>= λ _. ok tt)

-- the callables that numbers name
pub data NamesAll (P : Program) : List Numeral → List Callable → Type 0 where
  names-none : NamesAll P [] []
  names-next : {a : Numeral} {ns : List Numeral} {c : Callable} {cs : List Callable}
      → get_elem? P.callables a.number ≡ some c → NamesAll P ns cs → NamesAll P (a ∷ ns) (c ∷ cs)

-- that a table gives them all their parameters
pub record AsksGiven (nums : List ℕ) (at count : ℕ) : Type 0 where
  pub parameters : List Parameter
  pub stand : ParametersAt nums at count parameters
  pub numbers : length nums ≤ most_bytes

pub record GivesAll (nums : List ℕ) (at count : ℕ) (r : Bool) : Type 0 where
  pub gives : (ps : List Parameter) → ParametersAt nums at count ps → r ≡ table_gives_all ps

pub record AsksListed (nums directory ends : List ℕ) (at count : ℕ) : Type 0 where
  pub program : Program
  pub end : ℕ
  pub numerals : List Numeral
  pub callables : List Callable
  pub stands : StandsProgram nums directory ends program end
  pub stand : NumeralsAt nums at count numerals
  pub names : NamesAll program numerals callables

pub record JudgesListed (nums directory ends : List ℕ) (at count : ℕ) (r : Formal) : Type 0 where
  pub judged : (P : Program) (end : ℕ) (ns : List Numeral) (cs : List Callable)
      → StandsProgram nums directory ends P end → NumeralsAt nums at count ns → NamesAll P ns cs
      → told_form r ≡ judge_listed ns cs

-- literals for parameters
pub record AsksLiterals (nums : List ℕ) (parameter at count : ℕ) : Type 0 where
  pub parameters : List Parameter
  pub numerals : List Numeral
  pub parameters_stand : ParametersAt nums parameter count parameters
  pub stand : NumeralsAt nums at count numerals
  pub numbers : length nums ≤ most_bytes

pub record JudgesLiterals (nums : List ℕ) (parameter at count : ℕ) (r : Formal) : Type 0 where
  pub judged : (ps : List Parameter) (ns : List Numeral) → ParametersAt nums parameter count ps
      → NumeralsAt nums at count ns → told_form r ≡ literals_fit ps ns

-- where a table stands: its keys, its actions and its default
pub record TableAt (nums directory ends : List ℕ) (at actions default : ℕ) (P : Program) (T : Table) : Type 0 where
  pub end : ℕ
  pub stands : StandsProgram nums directory ends P end
  pub found : FoundTable nums ends at actions default T

-- its names: the listed actions and the default's position
unfoldable pub names_of : Program → Table → Res (Unit {0})
names_of P T = do
  cs ← judge_actions P T.actions
  c ← named T.default.at (get_elem? cs T.default.number)
  ok tt

pub record AsksNames (nums directory : List ℕ) (at actions default : ℕ) : Type 0 where
  pub ends : List ℕ
  pub program : Program
  pub table : Table
  pub stands : TableAt nums directory ends at actions default program table

pub record JudgesNames (nums directory : List ℕ) (at actions default : ℕ) (r : Formal) : Type 0 where
  pub judged : (ends : List ℕ) (P : Program) (T : Table) → TableAt nums directory ends at actions default P T
      → told_form r ≡ names_of P T

-- what is judged behind its names: the callables that it lists, and the default, are known
pub record NamedTable (nums directory ends : List ℕ) (at actions default : ℕ) (P : Program) (T : Table)
    (cs : List Callable) (c : Callable) : Type 0 where
  pub table : TableAt nums directory ends at actions default P T
  pub names : NamesAll P T.actions cs
  pub is : get_elem? cs T.default.number ≡ some c

pub record AsksNamed (nums directory ends : List ℕ) (at actions default : ℕ) : Type 0 where
  pub program : Program
  pub table : Table
  pub callables : List Callable
  pub callable : Callable
  pub named : NamedTable nums directory ends at actions default program table callables callable

pub record JudgesNamed (judge : Program → Table → List Callable → Callable → Res (Unit {0}))
    (nums directory ends : List ℕ) (at actions default : ℕ) (r : Formal) : Type 0 where
  pub judged : (P : Program) (T : Table) (cs : List Callable) (c : Callable)
      → NamedTable nums directory ends at actions default P T cs c → told_form r ≡ judge P T cs c

-- the 7s of its default; its 8s; both, which stand behind its keys
unfoldable pub default_is : Program → Table → List Callable → Callable → Res (Unit {0})
default_is P T cs c = do
  as_many ← need 7 T.count_at (eqb (length T.arguments) (length c.parameters))
  literals_fit c.parameters T.arguments

unfoldable pub kinds_are : Program → Table → List Callable → Callable → Res (Unit {0})
kinds_are P T cs c = one_lpm false T.keys >>= λ single. judge_listed T.actions cs

unfoldable pub behind_keys : Program → Table → List Callable → Callable → Res (Unit {0})
behind_keys P T cs c = default_is P T cs c >>= λ fit. kinds_are P T cs c

-- its keys, and what stands behind them
unfoldable pub behind_names : Program → Table → List Callable → Callable → Res (Unit {0})
behind_names P T cs c = do
  ts ← judge_keys (apply_scope P) T.keys
  are_bits ← keys_are_bits T.keys ts
  behind_keys P T cs c

pub record AsksLays (nums directory ends : List ℕ) (at actions default t : ℕ) : Type 0 where
  pub asks : AsksNamed nums directory ends at actions default
  pub few : t < most_tables

pub record LaysNamed (nums directory ends : List ℕ) (at actions default t : ℕ) (widths widths' : List ℕ) (r : Formal)
    : Type 0 where
  pub judges : JudgesNamed behind_names nums directory ends at actions default r
  pub laid : r ≡ Ok tt → (P : Program) (T : Table) (cs : List Callable) (c : Callable)
      → NamedTable nums directory ends at actions default P T cs c
      → widths' ≡ sets widths (most_keys * t) (key_widths P T.keys)

-- a table by its number, and the tables from a number on
unfoldable pub table_is : Program → ℕ → Table → Res (Unit {0})
table_is P t T = judge_table P T

unfoldable pub tables_are : Program → ℕ → List Table → Res (Unit {0})
tables_are P t Ts = judge_tables P Ts

pub record LaysTable (nums directory ends : List ℕ) (t : ℕ) (widths widths' : List ℕ) (r : Formal) : Type 0 where
  pub judges : JudgesPart tables_of table_is nums directory ends t r
  pub laid : r ≡ Ok tt → (P : Program) (end : ℕ) (T : Table) → StandsProgram nums directory ends P end
      → get_elem? P.tables t ≡ some T → widths' ≡ sets widths (most_keys * t) (key_widths P T.keys)

pub record LaysTables (nums directory ends : List ℕ) (t : ℕ) (widths widths' : List ℕ) (r : Formal) : Type 0 where
  pub judges : JudgesParts tables_of tables_are nums directory ends t r
  pub laid : r ≡ Ok tt → (P : Program) (end : ℕ) → StandsProgram nums directory ends P end
      → widths' ≡ lay_tables P t (drop t P.tables) widths

-- the states and the apply body
unfoldable pub behind_tables : Program → Res (Unit {0})
behind_tables P = judge_states P 0 P.states >>= λ states. judge_stmt (apply_scope P) P.body

pub record JudgesBehind (nums directory ends : List ℕ) (r : Formal) : Type 0 where
  pub judged : (P : Program) (end : ℕ) → StandsProgram nums directory ends P end → told_form r ≡ behind_tables P

-- the tables and what stands behind them
unfoldable pub rest_is : Program → Res (Unit {0})
rest_is P = judge_tables P P.tables >>= λ tables. behind_tables P

pub record LaysRest (nums directory ends widths widths' : List ℕ) (r : Formal) : Type 0 where
  pub judged : (P : Program) (end : ℕ) → StandsProgram nums directory ends P end → told_form r ≡ rest_is P
  pub laid : (P : Program) (end : ℕ) → StandsProgram nums directory ends P end
      → widths' ≡ widths_left (rest_is P) P widths
