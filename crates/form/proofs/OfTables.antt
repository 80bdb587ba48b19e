-- Tables: the names of each, its keys with their widths, and what stands behind; then one table after the other.
use mathlib.Core.Option.{Option, none, some}
use mathlib.Core.Path.{◌≡◌, refl, sym, ap, ◌∙◌}
use mathlib.Core.List.{List}
use Prim.Native.Nat.{ℕ, ◌+◌, ◌*◌, ◌≤◌, ◌<◌}
use native.Mathlib.Omega.{arith}
use native.Mathlib.Numerals.{add-one}
use lib.ListN.{length, get_or, get_elem?, drop, drop_of_length-le}
use lib.Seq.{sets}
use lib.Dec.{eqb}
use Rattle.std.specs.Prelude.{Ok, Err, Some, None}
use Rattle.std.specs.Prelude.{Option as Optional}
use Rattle.rules.specs.declared.Reason.TheVariants as reason
use Rattle.rules.specs.declared.Fault.{Fault}
use Rattle.rules.specs.Answers.{number_of}
use Rattle.rules.specs.Syntax.{Ty, Callable, Table, Program}
use Rattle.rules.specs.Form.{Res, ok, fault, ◌>>=◌, named, need, literals_fit, apply_scope, judge_actions, judge_keys, keys_are_bits, judge_table, judge_tables}
use Rattle.program.specs.Stands.{StandsProgram, SomeProgram}
use Rattle.program.specs.Looks.{Has, Finds, tables_of, FoundTable}
use Rattle.program.proofs.Found.{At, member-at}
use Rattle.program.proofs.Members.{drop-member}
use Rattle.form.specs.Claims.{Formal, told_form, key_widths, lay_tables}
use Rattle.bodies.specs.Claims.{refused}
use Rattle.form.specs.Parts.{Keyed, told_keys, AsksKeys, JudgesKeys, TableAt, names_of, AsksNames, JudgesNames, NamedTable, JudgesNamed, default_is, kinds_are, behind_keys, behind_names, AsksLays, LaysNamed, table_is, tables_are, LaysTable, LaysTables}
use Rattle.form.proofs.OfNames.{TableParts, table-parts, all_named}
use Rattle.form.proofs.Steps.{well-is, ill-is}
use Rattle.form.proofs.Walking.{Walk, Walked, walk-first, walk-asks, walk-done, here, walk-next, walk-stop, parts-next}

-- keys that are judged, then that each is bits, then what stands behind
keys-then : (x : Res (List Ty)) (f : List Ty → Res (Unit {0})) (y : Res (Unit {0})) (b : Res (Res (Unit {0})))
    → b ≡ (x >>= λ ts. ok (f ts)) → (b >>= λ later. later >>= λ _. y) ≡ (x >>= λ ts. f ts >>= λ _. y)
unfolding ◌>>=◌
keys-then (ok ts) f y b e = rw e
keys-then (fault number index) f y b e = rw e

module _ (nums directory ends : List ℕ) (at actions default t : ℕ) where
  module _ (h : AsksLays nums directory ends at actions default t) where
    abbrev asked : TableParts nums ends at actions default h.asks.table
    asked = table-parts nums ends at actions default h.asks.table h.asks.named.table.found

    pub keys-ask : AsksKeys nums directory ends (at + 1) (get_or nums at 0) (4 * t)
    keys-ask = record {
      program = h.asks.program;
      end = h.asks.named.table.end;
      keys = h.asks.table.keys;
      stands = h.asks.named.table.stands;
      keys_stand = asked.keys;
      slots = omega (arith, h.few, asked.few_keys);
    }

  module _ (widths widths' : List ℕ) where
    abbrev KeysJudged : Keyed → Type 0
    KeysJudged a = JudgesKeys nums directory ends (at + 1) (get_or nums at 0) (4 * t) widths widths' a

    told : (a : Keyed) → KeysJudged a → (P : Program) (T : Table) (cs : List Callable) (c : Callable)
        → NamedTable nums directory ends at actions default P T cs c
        → (told_keys a >>= λ later. later >>= λ _. behind_keys P T cs c) ≡ behind_names P T cs c
    unfolding behind_names
    told a j P T cs c h = keys-then (judge_keys (apply_scope P) T.keys) (keys_are_bits T.keys) (behind_keys P T cs c)
        (told_keys a) (j.judged P h.table.end T.keys h.table.stands
        (table-parts nums ends at actions default T h.table.found).keys)

    pub lays-unkeyed : (wrong : Fault) → KeysJudged (Err wrong)
        → LaysNamed nums directory ends at actions default t widths widths' (Err wrong)
    unfolding told_keys told_form ◌>>=◌
    lays-unkeyed wrong j = record {
      judges = record { judged = λ P T cs c h. told (Err wrong) j P T cs c h };
      laid = λ q P T cs c h. let z : ◌≡◌ {A = ℕ} 0 1 = cc in absurd (omega arith);
    }

    module _ (b : Optional ℕ) (j : KeysJudged (Ok b)) where
      pub lays-boolean : (index : ℕ) → b ≡ Some index
          → LaysNamed nums directory ends at actions default t widths widths' (refused reason.Type index)
      unfolding told_keys told_form ◌>>=◌
      lays-boolean index k = record {
        judges = record { judged = λ P T cs c h. rw k at (told (Ok b) j P T cs c h) };
        laid = λ q P T cs c h. let z : ◌≡◌ {A = ℕ} 0 1 = cc in absurd (omega arith);
      }

      pub lays-judged : (r : Formal) → b ≡ None → JudgesNamed behind_keys nums directory ends at actions default r
          → LaysNamed nums directory ends at actions default t widths widths' r
      unfolding told_keys ◌>>=◌
      lays-judged r k l = record {
        judges = record { judged = λ P T cs c h. l.judged P T cs c h ∙ rw k at (told (Ok b) j P T cs c h) };
        laid = λ q P T cs c h. j.laid (ap Ok k) P h.table.end T.keys h.table.stands
            (table-parts nums ends at actions default T h.table.found).keys;
      }

pub ruleset laying = (
  keys-ask,
  lays-unkeyed,
  lays-boolean,
  lays-judged,
)

-- names that are fine have their callables
record Names (P : Program) (T : Table) : Type 0 where
  callables : List Callable
  callable : Callable
  judged : judge_actions P T.actions ≡ ok callables
  is : get_elem? callables T.default.number ≡ some callable

names-fine : (P : Program) (T : Table) → names_of P T ≡ ok tt → Names P T
unfolding names_of named ◌>>=◌
names-fine P T e = go (judge_actions P T.actions) refl e
  where
    then : (cs : List Callable) → judge_actions P T.actions ≡ ok cs → (c : Option Callable)
        → get_elem? cs T.default.number ≡ c → (named T.default.at c >>= λ _. ok (tt {0})) ≡ ok tt → Names P T
    then cs f none g q = let z : ◌≡◌ {A = ℕ} 0 1 = cc in absurd (omega arith)
    then cs f (some c) g q = record { callables = cs; callable = c; judged = f; is = g }

    go : (x : Res (List Callable)) → judge_actions P T.actions ≡ x
        → (x >>= λ cs. named T.default.at (get_elem? cs T.default.number) >>= λ c. ok (tt {0})) ≡ ok tt
        → Names P T
    go (ok cs) f q = then cs f (get_elem? cs T.default.number) refl q
    go (fault number index) f q = let z : ◌≡◌ {A = ℕ} 0 1 = cc in absurd (omega arith)

names-fault : (P : Program) (T : Table) (number index : ℕ) → names_of P T ≡ fault number index
    → judge_table P T ≡ fault number index
unfolding names_of judge_table named ◌>>=◌
names-fault P T number index e = go (judge_actions P T.actions) _ e
  where
    then : (c : Option Callable) (y : Callable → Res (Unit {0}))
        → (named T.default.at c >>= λ _. ok (tt {0})) ≡ fault number index
        → (named T.default.at c >>= y) ≡ fault number index
    then none y q = q
    then (some c) y q = let z : ◌≡◌ {A = ℕ} 0 1 = cc in absurd (omega arith)

    go : (x : Res (List Callable)) (y : List Callable → Callable → Res (Unit {0}))
        → (x >>= λ cs. named T.default.at (get_elem? cs T.default.number) >>= λ c. ok (tt {0}))
        ≡ fault number index
        → (x >>= λ cs. named T.default.at (get_elem? cs T.default.number) >>= λ c. y cs c) ≡ fault number index
    go (ok cs) y q = then (get_elem? cs T.default.number) (y cs) q
    go (fault m i) y q = q

grouped : (x y z : Res (Unit {0})) → ((x >>= λ _. y) >>= λ _. z) ≡ (x >>= λ _. y >>= λ _. z)
unfolding ◌>>=◌
grouped (ok u) y z = refl
grouped (fault number index) y z = refl

-- behind its names a table is its keys and what stands behind them
table-behind : (P : Program) (T : Table) (n : Names P T) → judge_table P T ≡ behind_names P T n.callables n.callable
unfolding judge_table behind_names behind_keys default_is kinds_are named ◌>>=◌
table-behind P T n =
    rw (
      n.judged,
      n.is,
      grouped (need 7 T.count_at (eqb (length T.arguments) (length n.callable.parameters)))
          (literals_fit n.callable.parameters T.arguments) (kinds_are P T n.callables n.callable),
    )

module _ (nums directory ends : List ℕ) (t at actions default : ℕ)
    (f : Finds tables_of (FoundTable nums ends at actions default) nums directory ends t) where
  table_at : (P : Program) (end : ℕ) (T : Table) → StandsProgram nums directory ends P end
      → get_elem? P.tables t ≡ some T → TableAt nums directory ends at actions default P T
  unfolding tables_of
  table_at P end T s e = record { end = end; stands = s; found = f.finds P end T s e }

  module _ (h : Has tables_of nums directory ends t) where
    here-is : At h.program.tables t
    unfolding tables_of
    here-is = member-at h.program.tables t h.inside

    pub table-asks : AsksNames nums directory at actions default
    table-asks = record {
      ends = ends;
      program = h.program;
      table = here-is.member;
      stands = table_at h.program h.end here-is.member h.stands here-is.is;
    }

  pub table-fault : (wrong : Fault) (widths : List ℕ) → JudgesNames nums directory at actions default (Err wrong)
      → LaysTable nums directory ends t widths widths (Err wrong)
  unfolding tables_of table_is told_form
  table-fault wrong widths j = record {
    judges = record {
      judged = λ P end T s e. sym (names-fault P T (number_of wrong.reason) wrong.index
          (ill-is (names_of P T) wrong (j.judged ends P T (table_at P end T s e))));
    };
    laid = λ q P end T s e. let z : ◌≡◌ {A = ℕ} 0 1 = cc in absurd (omega arith);
  }

  module _ (j : JudgesNames nums directory at actions default (Ok tt)) where
    names_at : (P : Program) (T : Table) → TableAt nums directory ends at actions default P T → Names P T
    names_at P T p = names-fine P T (well-is (names_of P T) (j.judged ends P T p))

    named_table : (P : Program) (T : Table) (p : TableAt nums directory ends at actions default P T)
        → NamedTable nums directory ends at actions default P T (names_at P T p).callables (names_at P T p).callable
    named_table P T p = record {
      table = p;
      names = all_named P T.actions (names_at P T p).callables (names_at P T p).judged;
      is = (names_at P T p).is;
    }

    pub table-lays : Has tables_of nums directory ends t → AsksLays nums directory ends at actions default t
    unfolding tables_of
    table-lays h =
        let p : TableAt nums directory ends at actions default h.program (here-is h).member
        = table_at h.program h.end (here-is h).member h.stands (here-is h).is in
        record {
          asks = record {
            program = h.program;
            table = (here-is h).member;
            callables = (names_at h.program (here-is h).member p).callables;
            callable = (names_at h.program (here-is h).member p).callable;
            named = named_table h.program (here-is h).member p;
          };
          few = omega (arith, h.inside, h.stands.tables.few);
        }

    pub table-judged : (r : Formal) (widths widths' : List ℕ)
        → LaysNamed nums directory ends at actions default t widths widths' r
        → LaysTable nums directory ends t widths widths' r
    unfolding tables_of table_is
    table-judged r widths widths' l = record {
      judges = record {
        judged = λ P end T s e.
            let p : TableAt nums directory ends at actions default P T = table_at P end T s e in
            l.judges.judged P T (names_at P T p).callables (names_at P T p).callable (named_table P T p)
            ∙ sym (table-behind P T (names_at P T p));
      };
      laid = λ q P end T s e.
          let p : TableAt nums directory ends at actions default P T = table_at P end T s e in
          l.laid q P T (names_at P T p).callables (names_at P T p).callable (named_table P T p);
    }

pub ruleset tabled = (table-asks, table-fault, table-lays, table-judged)

-- tables one after the other
tables-walk : Walk tables_of table_is tables_are 59
unfolding tables_of table_is tables_are judge_tables
tables-walk = record {
  none_left = λ P i. refl;
  next = λ P i x xs. refl;
  count = λ nums directory ends P end s. s.tables.count;
}

-- those from a number on are judged and fine, up to another, and their keys' widths are laid
pub record Laid (nums directory ends : List ℕ) (from t : ℕ) (widths now : List ℕ) : Type 0 where
  walked : Walked tables_of tables_are nums directory ends from t
  left : (P : Program) (end : ℕ) → StandsProgram nums directory ends P end
      → lay_tables P from (drop from P.tables) widths ≡ lay_tables P t (drop t P.tables) now

module _ (nums directory ends widths : List ℕ) where
  pub tables-first : (from : ℕ) → Laid nums directory ends from from widths widths
  tables-first from = record { walked = walk-first tables-walk nums directory ends from; left = λ P end s. refl }

  module _ (t : ℕ) (now : List ℕ) where
    pub tables-ask : SomeProgram nums directory ends → t < get_or directory 59 0 → Has tables_of nums directory ends t
    tables-ask = walk-asks tables-walk nums directory ends t

    module _ (from : ℕ) (d : Laid nums directory ends from t widths now) where
      pub tables-done : get_or directory 59 0 ≤ t → LaysTables nums directory ends from widths now (Ok tt)
      unfolding tables_of lay_tables
      tables-done l = record {
        judges = walk-done tables-walk nums directory ends from t d.walked l;
        laid = λ q P end s.
            let past : length P.tables ≤ t = omega (arith, l, s.tables.count) in
            sym (d.left P end s ∙ rw (drop_of_length-le P.tables past));
      }

      module _ (l : t < get_or directory 59 0) (next : List ℕ) where
        pub tables-next : LaysTable nums directory ends t now next (Ok tt)
            → Laid nums directory ends from (t + 1) widths next
        unfolding tables_of lay_tables
        tables-next j = record {
          walked = walk-next tables-walk nums directory ends from t d.walked l j.judges;
          left = λ P end s.
              let x : At P.tables t = here tables-walk nums directory ends t l P end s in
              let e : next ≡ sets now (4 * t) (key_widths P x.member.keys) = j.laid refl P end x.member s x.is in
              d.left P end s
              ∙ rw (drop-member P.tables t x.member x.is, add-one t, e);
        }

        pub tables-stop : (wrong : Fault) → LaysTable nums directory ends t now next (Err wrong)
            → LaysTables nums directory ends from widths next (Err wrong)
        tables-stop wrong j = record {
          judges = walk-stop tables-walk nums directory ends from t d.walked l wrong j.judges;
          laid = λ q P end s. let z : ◌≡◌ {A = ℕ} 0 1 = cc in absurd (omega arith);
        }

  -- where a table is fine, those from it on are judged and laid as those behind it
  pub laid-next : (t : ℕ) → t < get_or directory 59 0 → (next last : List ℕ) (r : Formal)
      → LaysTable nums directory ends t widths next (Ok tt) → LaysTables nums directory ends (t + 1) next last r
      → LaysTables nums directory ends t widths last r
  laid-next t l next last r j m =
      let d : Laid nums directory ends t (t + 1) widths next = tables-next t widths t (tables-first t) l next j in
      record {
        judges = parts-next tables-walk nums directory ends t l j.judges r m.judges;
        laid = λ q P end s. m.laid q P end s ∙ sym (d.left P end s);
      }

pub ruleset walked = (tables-first, tables-ask, tables-done, tables-next, tables-stop)
