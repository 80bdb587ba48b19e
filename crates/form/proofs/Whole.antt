-- The whole program, in file order: its globals, its callables, its tables, its states, its apply body.
use mathlib.Core.Bool.{Bool}
use mathlib.Core.Path.{◌≡◌, refl, sym, ◌∙◌}
use mathlib.Core.List.{List}
use Prim.Native.Nat.{ℕ}
use lib.ListN.{get_or}
use Rattle.std.specs.Prelude.{Ok, Err}
use Rattle.rules.specs.declared.Fault.{Fault}
use Rattle.rules.specs.Syntax.{Program}
use Rattle.rules.specs.Form.{ok, ◌>>=◌, judge_globals, judge_callables, apply_scope, judge_tables, judge_states, judge_program}
use Rattle.program.specs.Stands.{StandsProgram, SomeProgram}
use Rattle.program.specs.Looks.{globals_of, callables_of, tables_of, states_of}
use Rattle.bodies.specs.Claims.{AsksStmt, JudgesStmt}
use Rattle.bodies.proofs.Stating.{fine-is, faulty-is}
use Rattle.form.specs.Claims.{Formal, told_form, widths_left, JudgesForm}
use Rattle.form.specs.Parts.{JudgesParts, globals_are, JudgesApply, tables_are, LaysTables, behind_tables, JudgesBehind, rest_is, LaysRest}
use Rattle.program.proofs.Seen.{apply_slots, apply-scope}
use Rattle.form.proofs.Steps.{well-is, ill-is}

-- the apply body
module _ (nums directory ends : List ℕ) where
  pub apply-asks : SomeProgram nums directory ends
      → AsksStmt nums directory ends (apply_slots directory) 32 (get_or directory 68 0)
  apply-asks h = record {
    scope_of = apply_scope h.program;
    stmt = h.program.body;
    seen = apply-scope nums directory ends h.program h.end h.stands;
    stands = h.stands.body;
  }

  pub apply-fine : (b : Bool) → JudgesStmt nums directory ends (apply_slots directory) 32 (get_or directory 68 0) (Ok b)
      → JudgesApply nums directory ends (Ok tt)
  unfolding told_form
  apply-fine b j = record {
    judged = λ P end s.
        sym (fine-is j (apply_scope P) P.body (apply-scope nums directory ends P end s) s.body).is;
  }

  pub apply-fault : (wrong : Fault)
      → JudgesStmt nums directory ends (apply_slots directory) 32 (get_or directory 68 0) (Err wrong)
      → JudgesApply nums directory ends (Err wrong)
  unfolding told_form
  apply-fault wrong j = record {
    judged = λ P end s. sym (faulty-is j (apply_scope P) P.body (apply-scope nums directory ends P end s) s.body);
  }

pub ruleset applying = (apply-asks, apply-fine, apply-fault)

-- the states, then the apply body
module _ (nums directory ends : List ℕ) where
  pub behind-states : (wrong : Fault) → JudgesParts states_of judge_states nums directory ends 0 (Err wrong)
      → JudgesBehind nums directory ends (Err wrong)
  unfolding states_of behind_tables told_form ◌>>=◌
  behind-states wrong j = record {
    judged = λ P end s. rw (ill-is (judge_states P 0 P.states) wrong (j.judged P end s));
  }

  pub behind-apply : (r : Formal) → JudgesParts states_of judge_states nums directory ends 0 (Ok tt)
      → JudgesApply nums directory ends r → JudgesBehind nums directory ends r
  unfolding states_of behind_tables ◌>>=◌
  behind-apply r j l = record {
    judged = λ P end s. rw (well-is (judge_states P 0 P.states) (j.judged P end s)) (l.judged P end s);
  }

pub ruleset behinds = (behind-states, behind-apply)

-- the tables, then what stands behind them
module _ (nums directory ends widths laid : List ℕ) where
  abbrev Tables : Formal → Type 0
  Tables a = LaysTables nums directory ends 0 widths laid a

  pub rest-tables : (wrong : Fault) → Tables (Err wrong) → LaysRest nums directory ends widths widths (Err wrong)
  unfolding tables_of tables_are rest_is told_form widths_left ◌>>=◌
  rest-tables wrong j = record {
    judged = λ P end s. rw (ill-is (judge_tables P P.tables) wrong (j.judges.judged P end s));
    laid = λ P end s. rw (ill-is (judge_tables P P.tables) wrong (j.judges.judged P end s));
  }

  module _ (j : Tables (Ok tt)) where
    tables-fine : (P : Program) (end : ℕ) → StandsProgram nums directory ends P end → judge_tables P P.tables ≡ ok tt
    unfolding tables_of tables_are
    tables-fine P end s = well-is (judge_tables P P.tables) (j.judges.judged P end s)

    pub rest-behind : (wrong : Fault) → JudgesBehind nums directory ends (Err wrong)
        → LaysRest nums directory ends widths widths (Err wrong)
    unfolding rest_is told_form widths_left ◌>>=◌
    rest-behind wrong l = record {
      judged = λ P end s. rw (tables-fine P end s, ill-is _ wrong (l.judged P end s));
      laid = λ P end s. rw (tables-fine P end s, ill-is _ wrong (l.judged P end s));
    }

    pub rest-fine : JudgesBehind nums directory ends (Ok tt) → LaysRest nums directory ends widths laid (Ok tt)
    unfolding tables_of rest_is told_form widths_left ◌>>=◌
    rest-fine l = record {
      judged = λ P end s. rw (tables-fine P end s, well-is _ (l.judged P end s));
      laid = λ P end s. rw (tables-fine P end s, well-is _ (l.judged P end s)) (j.laid refl P end s);
    }

pub ruleset resting = (rest-tables, rest-behind, rest-fine)

-- all of it
module _ (nums directory ends widths : List ℕ) where
  abbrev Globals : Formal → Type 0
  Globals a = JudgesParts globals_of globals_are nums directory ends 0 a

  abbrev Callables : Formal → Type 0
  Callables a = JudgesParts callables_of judge_callables nums directory ends 0 a

  pub form-globals : (wrong : Fault) → Globals (Err wrong) → JudgesForm nums directory ends widths widths (Err wrong)
  unfolding globals_of globals_are judge_program told_form widths_left ◌>>=◌
  form-globals wrong j = record {
    judged = λ P end s. rw (ill-is (judge_globals P P.globals) wrong (j.judged P end s));
    laid = λ P end s. rw (ill-is (judge_globals P P.globals) wrong (j.judged P end s));
  }

  module _ (j : Globals (Ok tt)) where
    globals-fine : (P : Program) (end : ℕ) → StandsProgram nums directory ends P end → judge_globals P P.globals ≡ ok tt
    unfolding globals_of globals_are
    globals-fine P end s = well-is (judge_globals P P.globals) (j.judged P end s)

    pub form-callables : (wrong : Fault) → Callables (Err wrong)
        → JudgesForm nums directory ends widths widths (Err wrong)
    unfolding callables_of judge_program told_form widths_left ◌>>=◌
    form-callables wrong l = record {
      judged = λ P end s. rw (globals-fine P end s, ill-is (judge_callables P 0 P.callables) wrong (l.judged P end s));
      laid = λ P end s. rw (globals-fine P end s, ill-is (judge_callables P 0 P.callables) wrong (l.judged P end s));
    }

    behind-callables : Callables (Ok tt) → (P : Program) (end : ℕ) → StandsProgram nums directory ends P end
        → judge_program P ≡ rest_is P
    unfolding callables_of judge_program behind_tables rest_is ◌>>=◌
    behind-callables l P end s =
        rw (globals-fine P end s, well-is (judge_callables P 0 P.callables) (l.judged P end s))

    pub form-rest : (r : Formal) (widths' : List ℕ) → Callables (Ok tt) → LaysRest nums directory ends widths widths' r
        → JudgesForm nums directory ends widths widths' r
    form-rest r widths' l m = record {
      judged = λ P end s. m.judged P end s ∙ sym (behind-callables l P end s);
      laid = λ P end s. rw (behind-callables l P end s) (m.laid P end s);
    }

pub ruleset forming = (form-globals, form-callables, form-rest)
