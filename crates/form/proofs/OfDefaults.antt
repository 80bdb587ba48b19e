-- A table behind its keys: its default's literals, at most one lpm key, and what a table may list.
use mathlib.Core.Bool.{false}
use mathlib.Core.Option.{some}
use mathlib.Core.Path.{◌≡◌, sym, ◌∙◌}
use mathlib.Core.List.{List}
use Prim.Native.Nat.{ℕ, ◌+◌, ◌^◌, ◌<◌}
use native.Mathlib.Omega.{arith}
use lib.ListN.{length, get_or, get_elem?}
use borrow.Author.Tests.{eq-eqb, ne_eqb}
use Rattle.std.specs.Prelude.{Ok, Err}
use Rattle.rules.specs.declared.Fault.{Fault}
use Rattle.rules.specs.declared.Reason.TheVariants as reason
use Rattle.rules.specs.Syntax.{Callable, Table, Program}
use Rattle.rules.specs.Form.{◌>>=◌, need, one_lpm}
use Rattle.program.specs.Stands.{StandsNumeral}
use Rattle.program.specs.Looks.{Has, Finds, callables_of, FoundHead}
use Rattle.program.proofs.Found.{member-in}
use Rattle.program.proofs.Members.{numeral-at}
use Rattle.bodies.specs.Claims.{refused}
use Rattle.form.specs.Claims.{Formal, told_form}
use Rattle.form.specs.Parts.{AsksKinds, JudgesKinds, AsksListed, JudgesListed, AsksLiterals, JudgesLiterals, NamedTable, AsksNamed, JudgesNamed, default_is, kinds_are, behind_keys}
use Rattle.form.proofs.OfNames.{TableParts, table-parts, NamedAt, named-at}
use Rattle.form.proofs.Steps.{well-is, ill-is}

module _ (nums directory ends : List ℕ) (at actions default : ℕ) where
  parts : (P : Program) (T : Table) (cs : List Callable) (c : Callable)
      → NamedTable nums directory ends at actions default P T cs c → TableParts nums ends at actions default T
  parts P T cs c h = table-parts nums ends at actions default T h.table.found

  -- where the default's action is listed
  abbrev listed_at : ℕ
  listed_at = actions + 1 + get_or nums default 0

  record Default (P : Program) (c : Callable) : Type 0 where
    inside : listed_at < length nums
    is : get_elem? P.callables (get_or nums listed_at 0) ≡ some c

  default-of : (P : Program) (T : Table) (cs : List Callable) (c : Callable)
      → NamedTable nums directory ends at actions default P T cs c → Default P c
  default-of P T cs c h =
      let p : TableParts nums ends at actions default T = parts P T cs c h in
      let m : NamedAt P T.actions T.default.number c = named-at h.names T.default.number c h.is in
      let s : StandsNumeral nums (actions + 1 + T.default.number) m.numeral
      = numeral-at nums (actions + 1) T.actions p.actions_stand.stand T.default.number m.numeral
      m.listed in
      record {
        inside = rw p.default_stands.holds.is s.holds.inside;
        is = rw (p.default_stands.holds.is, s.holds.is) m.is;
      }

  module _ (h : AsksNamed nums directory ends at actions default) where
    abbrev asked : TableParts nums ends at actions default h.table
    asked = parts h.program h.table h.callables h.callable h.named

    chosen : Default h.program h.callable
    chosen = default-of h.program h.table h.callables h.callable h.named

    pub listed-inside : listed_at < length nums
    listed-inside = chosen.inside

    pub listed_small : listed_at < 2 ^ 64
    listed_small = omega (arith, chosen.inside, h.named.table.stands.numbers)

    pub default-head : Has callables_of nums directory ends (get_or nums listed_at 0)
    unfolding callables_of
    default-head = record {
      program = h.program;
      end = h.named.table.end;
      stands = h.named.table.stands;
      inside = member-in h.program.callables (get_or nums listed_at 0) h.callable chosen.is;
    }

    pub kinds-ask : AsksKinds nums ends (at + 1) (get_or nums at 0)
    kinds-ask = record {
      keys = h.table.keys;
      keys_stand = asked.keys;
      numbers = h.named.table.stands.numbers;
      room = h.named.table.stands.room;
    }

    pub listed-ask : AsksListed nums directory ends (actions + 1) (get_or nums actions 0)
    listed-ask = record {
      program = h.program;
      end = h.named.table.end;
      numerals = h.table.actions;
      callables = h.callables;
      stands = h.named.table.stands;
      stand = asked.actions_stand;
      names = h.named.names;
    }

  -- the default's literals
  module _ (kind returns parameters count : ℕ)
      (f : Finds callables_of (FoundHead nums kind returns parameters count) nums directory ends (get_or nums listed_at 0))
    where
      head : (P : Program) (T : Table) (cs : List Callable) (c : Callable)
          → NamedTable nums directory ends at actions default P T cs c → FoundHead nums kind returns parameters count c
      unfolding callables_of
      head P T cs c h = f.finds P h.table.end c h.table.stands (default-of P T cs c h).is

      pub default-judged : (r : Formal) → get_or nums (default + 1) 0 ≡ count
          → JudgesLiterals nums parameters (default + 2) count r
          → JudgesNamed default_is nums directory ends at actions default r
      unfolding default_is need ◌>>=◌
      default-judged r e j = record {
        judged = λ P T cs c h.
            let p : TableParts nums ends at actions default T = parts P T cs c h in
            let d : FoundHead nums kind returns parameters count c = head P T cs c h in
            let n : length T.arguments ≡ length c.parameters = sym p.counted ∙ e ∙ d.count_is in
            rw (eq-eqb (length T.arguments) (length c.parameters) n)
            (j.judged c.parameters T.arguments (record { stand = d.parameters_stand; counted = d.count_is })
            (record { stand = p.arguments; counted = sym e ∙ p.counted }));
      }

      pub default-uncounted : (get_or nums (default + 1) 0 ≡ count → ⊥)
          → JudgesNamed default_is nums directory ends at actions default (refused reason.Type (default + 1))
      unfolding default_is told_form need ◌>>=◌
      default-uncounted x = record {
        judged = λ P T cs c h.
            let p : TableParts nums ends at actions default T = parts P T cs c h in
            let d : FoundHead nums kind returns parameters count c = head P T cs c h in
            rw (
              ne_eqb (length T.arguments) (length c.parameters) (λ e. x (p.counted ∙ e ∙ sym d.count_is)),
              p.count_index,
            );
      }

  pub literals-ask : (kind returns parameters count : ℕ) → AsksNamed nums directory ends at actions default
      → Finds callables_of (FoundHead nums kind returns parameters count) nums directory ends (get_or nums listed_at 0)
      → get_or nums (default + 1) 0 ≡ count → AsksLiterals nums parameters (default + 2) count
  literals-ask kind returns parameters count h f e =
      let d : FoundHead nums kind returns parameters count h.callable
      = head kind returns parameters count f h.program h.table h.callables h.callable h.named in
      record {
        parameters = h.callable.parameters;
        numerals = h.table.arguments;
        parameters_stand = record { stand = d.parameters_stand; counted = d.count_is };
        stand = record { stand = (asked h).arguments; counted = sym e ∙ (asked h).counted };
        numbers = h.named.table.stands.numbers;
      }

  -- the kinds of keys, then the listed actions
  pub kinds-fault : (wrong : Fault) → JudgesKinds nums ends (at + 1) (get_or nums at 0) false (Err wrong)
      → JudgesNamed kinds_are nums directory ends at actions default (Err wrong)
  unfolding kinds_are told_form ◌>>=◌
  kinds-fault wrong j = record {
    judged = λ P T cs c h. rw (ill-is (one_lpm false T.keys) wrong (j.judged T.keys (parts P T cs c h).keys));
  }

  pub kinds-judged : (r : Formal) → JudgesKinds nums ends (at + 1) (get_or nums at 0) false (Ok tt)
      → JudgesListed nums directory ends (actions + 1) (get_or nums actions 0) r
      → JudgesNamed kinds_are nums directory ends at actions default r
  unfolding kinds_are ◌>>=◌
  kinds-judged r j l = record {
    judged = λ P T cs c h.
        rw (well-is (one_lpm false T.keys) (j.judged T.keys (parts P T cs c h).keys))
        (l.judged P h.table.end T.actions cs h.table.stands (parts P T cs c h).actions_stand h.names);
  }

  -- both
  pub behind-fault : (wrong : Fault) → JudgesNamed default_is nums directory ends at actions default (Err wrong)
      → JudgesNamed behind_keys nums directory ends at actions default (Err wrong)
  unfolding behind_keys told_form ◌>>=◌
  behind-fault wrong j = record {
    judged = λ P T cs c h. rw (ill-is (default_is P T cs c) wrong (j.judged P T cs c h));
  }

  pub behind-judged : (r : Formal) → JudgesNamed default_is nums directory ends at actions default (Ok tt)
      → JudgesNamed kinds_are nums directory ends at actions default r
      → JudgesNamed behind_keys nums directory ends at actions default r
  unfolding behind_keys ◌>>=◌
  behind-judged r j l = record {
    judged = λ P T cs c h. rw (well-is (default_is P T cs c) (j.judged P T cs c h)) (l.judged P T cs c h);
  }

pub ruleset defaults = (
  listed-inside,
  listed_small,
  default-head,
  default-judged,
  default-uncounted,
)

pub ruleset kinds = (
  kinds-ask,
  listed-ask,
  kinds-fault,
  kinds-judged,
)

pub ruleset behind = (behind-fault, behind-judged)
