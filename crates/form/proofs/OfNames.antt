-- Where a table's parts stand, and its names: the listed actions, and the default's position among them.
use mathlib.Core.Bool.{Bool, true, false}
use mathlib.Core.Option.{Option, none, some}
use mathlib.Core.Path.{◌≡◌, refl, sym, ap, ◌∙◌}
use mathlib.Core.List.{List, [], ◌∷◌}
use Prim.Native.Nat.{ℕ, zero, suc, ◌+◌, ◌≤◌, ◌<◌}
use native.Mathlib.Omega.{arith}
use lib.ListN.{length, get_or, get_elem?}
use lib.Dec.{ltb}
use borrow.Author.Tests.{ltb-true, ltb-false}
use Rattle.std.specs.Prelude.{Ok, Err}
use Rattle.rules.specs.declared.Fault.{Fault}
use Rattle.rules.specs.Answers.{number_of}
use Rattle.rules.specs.Syntax.{Callable, Numeral, Table, Program}
use Rattle.rules.specs.Form.{Res, ok, fault, ◌>>=◌, named, need, judge_actions}
use Rattle.rules.proofs.Predicates.{no_member}
use Rattle.program.specs.Stands.{StandsNumeral, StandsNumerals}
use Rattle.program.specs.Looks.{FoundTable}
use Rattle.program.proofs.Found.{member-at}
use Rattle.form.specs.Claims.{Formal, told_form}
use Rattle.form.specs.Parts.{Says, KeysAt, NumeralsAt, AsksExist, JudgesExist, NamesAll, names-none, names-next, TableAt, names_of, AsksNames, JudgesNames}

-- a table's parts
pub record TableParts (nums ends : List ℕ) (at actions default : ℕ) (T : Table) : Type 0 where
  pub inside : at < length nums
  pub keys : KeysAt nums ends (at + 1) (get_or nums at 0) T.keys
  pub few_keys : get_or nums at 0 ≤ 4
  pub actions_inside : actions < length nums
  pub actions_stand : NumeralsAt nums (actions + 1) (get_or nums actions 0) T.actions
  pub default_stands : StandsNumeral nums default T.default
  pub count_index : T.count_at ≡ default + 1
  pub count_inside : default + 1 < length nums
  pub counted : get_or nums (default + 1) 0 ≡ length T.arguments
  pub arguments : StandsNumerals nums (default + 2) T.arguments

pub table-parts : (nums ends : List ℕ) (at actions default : ℕ) (T : Table) → FoundTable nums ends at actions default T
    → TableParts nums ends at actions default T
table-parts nums ends at actions default T f = record {
  inside = f.stands.key_count.holds.inside;
  keys = record { stand = f.stands.keys; counted = f.stands.key_count.holds.is };
  few_keys = omega (arith, f.stands.key_count.holds.is, f.stands.key_count.at_most);
  actions_inside = rw f.actions_is f.stands.action_count.holds.inside;
  actions_stand = rw f.actions_is
      (record { stand = f.stands.actions; counted = f.stands.action_count.holds.is });
  default_stands = rw f.default_is f.stands.default;
  count_index = rw f.default_is f.stands.count_index;
  count_inside = rw f.default_is f.stands.argument_count.holds.inside;
  counted = rw f.default_is f.stands.argument_count.holds.is;
  arguments = rw f.default_is f.stands.arguments;
}

-- the callables that listed actions name
pub all_named : (P : Program) (ns : List Numeral) (cs : List Callable) → judge_actions P ns ≡ ok cs → NamesAll P ns cs
unfolding judge_actions named ◌>>=◌
all_named P [] cs e =
    let same : [] ≡ cs = cc in
    rw (← same) names-none
all_named P (n ∷ ns) cs e =
    go (get_elem? P.callables n.number) refl (judge_actions P ns) refl (λ ds g. all_named P ns ds g) e
  where
    go : (c : Option Callable) → get_elem? P.callables n.number ≡ c → (x : Res (List Callable))
        → judge_actions P ns ≡ x → ((ds : List Callable) → judge_actions P ns ≡ ok ds → NamesAll P ns ds)
        → (named n.at c >>= λ c. x >>= λ cs. ok (c ∷ cs)) ≡ ok cs → NamesAll P (n ∷ ns) cs
    go none f x g h q = let z : ◌≡◌ {A = ℕ} 0 1 = cc in absurd (omega arith)
    go (some c) f (ok ds) g h q =
        let same : c ∷ ds ≡ cs = cc in
        rw (← same) (names-next f (h ds g))
    go (some c) f (fault number index) g h q = let z : ◌≡◌ {A = ℕ} 0 1 = cc in absurd (omega arith)

names-count : {P : Program} {ns : List Numeral} {cs : List Callable} → NamesAll P ns cs → length cs ≡ length ns
names-count names-none = refl
names-count (names-next e h) = ap suc (names-count h)

-- the one at a position
pub record NamedAt (P : Program) (ns : List Numeral) (i : ℕ) (c : Callable) : Type 0 where
  pub numeral : Numeral
  pub listed : get_elem? ns i ≡ some numeral
  pub is : get_elem? P.callables numeral.number ≡ some c

pub named-at : {P : Program} {ns : List Numeral} {cs : List Callable} → NamesAll P ns cs → (i : ℕ) (c : Callable)
    → get_elem? cs i ≡ some c → NamedAt P ns i c
named-at names-none i c e = let z : ◌≡◌ {A = ℕ} 0 1 = cc in absurd (omega arith)
named-at (names-next {c = d} f h) zero c e =
    let same : d ≡ c = cc in
    record { numeral = _; listed = refl; is = rw same at f }
named-at (names-next f h) (suc i) c e =
    let r : NamedAt _ _ i c = named-at h i c e in
    record { numeral = r.numeral; listed = r.listed; is = r.is }

-- a position among some
position-is : (cs : List Callable) (n at : ℕ)
    → need 6 at (ltb n (length cs)) ≡ (named at (get_elem? cs n) >>= λ c. ok tt)
unfolding need named ◌>>=◌
position-is cs n at = go (ltb n (length cs)) refl
  where
    go : (b : Bool) → ltb n (length cs) ≡ b → need 6 at b ≡ (named at (get_elem? cs n) >>= λ c. ok tt)
    go true q = rw (member-at cs n (ltb-true n (length cs) q)).is
    go false q = rw (no_member cs n (ltb-false n (length cs) q))

-- a table's names
module _ (nums directory : List ℕ) (at actions default : ℕ) where
  module _ (h : AsksNames nums directory at actions default) where
    parts : TableParts nums h.ends at actions default h.table
    parts = table-parts nums h.ends at actions default h.table h.stands.found

    pub names-exist : AsksExist nums (actions + 1) (get_or nums actions 0)
    names-exist = record {
      numerals = h.table.actions;
      stand = parts.actions_stand;
      numbers = h.stands.stands.numbers;
    }

  told : (a : Formal) → JudgesExist nums directory (actions + 1) (get_or nums actions 0) a → (ends : List ℕ)
      (P : Program) (T : Table) → TableAt nums directory ends at actions default P T
      → told_form a ≡ (judge_actions P T.actions >>= λ _. ok tt)
  told a j ends P T h = j.judged ends P h.end T.actions h.stands
      (table-parts nums ends at actions default T h.found).actions_stand

  pub names-fault : (wrong : Fault) → JudgesExist nums directory (actions + 1) (get_or nums actions 0) (Err wrong)
      → JudgesNames nums directory at actions default (Err wrong)
  unfolding told_form names_of ◌>>=◌
  names-fault wrong j = record {
    judged = λ ends P T h. go (judge_actions P T.actions) _ (told (Err wrong) j ends P T h);
  }
    where
      go : (x : Res (List Callable)) (y : List Callable → Res (Unit {0}))
          → fault (number_of wrong.reason) wrong.index ≡ (x >>= λ _. ok (tt {0}))
          → fault (number_of wrong.reason) wrong.index ≡ (x >>= y)
      go (ok cs) y e = let z : ◌≡◌ {A = ℕ} 0 1 = cc in absurd (omega arith)
      go (fault m i) y e = e

  pub names-judged : (r : Formal) → JudgesExist nums directory (actions + 1) (get_or nums actions 0) (Ok tt)
      → Says r (need 6 default (ltb (get_or nums default 0) (get_or nums actions 0)))
      → JudgesNames nums directory at actions default r
  unfolding told_form names_of ◌>>=◌
  names-judged r j s = record {
    judged = λ ends P T h. go ends P T (table-parts nums ends at actions default T h.found)
        (judge_actions P T.actions) refl (told (Ok tt) j ends P T h);
  }
    where
      go : (ends : List ℕ) (P : Program) (T : Table) → TableParts nums ends at actions default T
          → (x : Res (List Callable)) → judge_actions P T.actions ≡ x → ok (tt {0}) ≡ (x >>= λ _. ok (tt {0}))
          → told_form r ≡ (x >>= λ cs. named T.default.at (get_elem? cs T.default.number) >>= λ c. ok tt)
      go ends P T p (ok cs) q e =
          let n : get_or nums actions 0 ≡ length cs
          = p.actions_stand.counted ∙ sym (names-count (all_named P T.actions cs q)) in
          rw (n, p.default_stands.holds.is, ← p.default_stands.index) at s.judged
          ∙ position-is cs T.default.number T.default.at
      go ends P T p (fault number index) q e = let z : ◌≡◌ {A = ℕ} 0 1 = cc in absurd (omega arith)

pub ruleset names = (names-exist, names-fault, names-judged)
