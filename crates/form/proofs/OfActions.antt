-- Actions: that numbers name callables, and that a table may list these.
use mathlib.Core.Bool.{Bool, true, false, ◌&&◌}
use mathlib.Core.Option.{some}
use mathlib.Core.Path.{◌≡◌, refl, sym, ◌∙◌}
use mathlib.Core.List.{List, [], ◌∷◌}
use Prim.Native.Nat.{ℕ, ◌+◌, ◌-◌, ◌*◌, ◌^◌, ◌≤◌, ◌<◌}
use native.Mathlib.Omega.{arith}
use lib.ListN.{length, get_or, get_elem?}
use lib.Dec.{ltb}
use borrow.Author.Tests.{ltb-true, ltb-false}
use mir.Val.{Fits}
use mir.Syntax.{w64}
use Rattle.std.specs.Prelude.{Ok, Err}
use Rattle.rules.specs.declared.Fault.{Fault}
use Rattle.rules.specs.Syntax.{Direction, by_none, by_in, by_out, by_inout, Parameter, Callable, Numeral, Program}
use Rattle.rules.specs.Form.{Res, ok, fault, ◌>>=◌, named, need, table_gives, judge_actions, table_gives_all, listable, judge_listed}
use Rattle.rules.proofs.Predicates.{no_member}
use Rattle.program.specs.declared.Kind.{Kind}
use Rattle.program.specs.declared.Kind.TheVariants as kinds
use Rattle.program.specs.Scopes.{kind_numbered}
use Rattle.program.proofs.Seen.{is_kind}
use Rattle.program.specs.Codes.{direction_number}
use Rattle.program.specs.Stands.{StandsNumerals, StandsProgram}
use Rattle.program.specs.Looks.{Has, Finds, callables_of, FoundHead}
use Rattle.program.proofs.Found.{member-at, member-in}
use Rattle.form.specs.Claims.{Formal, told_form}
use Rattle.form.specs.Parts.{Says, NumeralsAt, ParametersAt, AsksExist, JudgesExist, NamesAll, names-next, AsksGiven, GivesAll, AsksListed, JudgesListed}
use Rattle.form.proofs.Steps.{held, Failed, failed}
use Rattle.form.proofs.OfCallables.{is-action}
use Rattle.program.proofs.Firsts.{FirstNumeral, first-numeral, FirstParameter, first-parameter}
use Rattle.form.proofs.OfNumerals.{numerals-behind, parameters-behind}

-- numerals end inside, or where they begin
pub numerals_end : (nums : List ℕ) (at : ℕ) (ns : List Numeral) → StandsNumerals nums at ns → (m : ℕ) → at ≤ m
    → length nums ≤ m → at + length ns ≤ m
unfolding StandsNumerals
numerals_end nums at [] s m h k = omega (arith, h)
numerals_end nums at (n ∷ ns) s m h k =
    let l : at + 1 + length ns ≤ m
    = numerals_end nums (at + 1) ns s.1 m (omega (arith, s.0.holds.inside, k)) k in
    omega (arith, l)

-- that numbers name callables, whatever the callables are
one_more : (x : Res (List Callable)) (c : Callable)
    → (x >>= λ _. ok (tt {0})) ≡ ((x >>= λ cs. ok (c ∷ cs)) >>= λ _. ok (tt {0}))
unfolding ◌>>=◌
one_more (ok cs) c = refl
one_more (fault number index) c = refl

module _ (nums directory : List ℕ) (at count : ℕ) where
  pub exist-none : count ≡ 0 → JudgesExist nums directory at count (Ok tt)
  unfolding told_form judge_actions ◌>>=◌
  exist-none e = record { judged = λ ends P end ns s h. go P ns h }
    where
      go : (P : Program) (ns : List Numeral) → NumeralsAt nums at count ns
          → told_form (Ok tt) ≡ (judge_actions P ns >>= λ _. ok tt)
      go P [] h = refl
      go P (n ∷ ns) h = absurd (omega (arith, e, h.counted))

  pub missing-here : (r : Formal) → told_form r ≡ fault 6 at → (count ≡ 0 → ⊥)
      → get_or directory 42 0 ≤ get_or nums at 0 → JudgesExist nums directory at count r
  unfolding judge_actions named ◌>>=◌
  missing-here r e more l = record {
    judged = λ ends P end ns s h.
        let n : FirstNumeral nums at count ns = first-numeral nums at count ns h.stand h.counted more in
        e
        ∙ rw (
          n.same,
          no_member P.callables n.first.number (omega (arith, l, n.stands.holds.is, s.callables.count)),
          n.stands.index,
        );
  }

  pub exists-here : (r : Formal) → (count ≡ 0 → ⊥) → get_or nums at 0 < get_or directory 42 0
      → JudgesExist nums directory (at + 1) (count - 1) r → JudgesExist nums directory at count r
  unfolding judge_actions named ◌>>=◌
  exists-here r more l j = record {
    judged = λ ends P end ns s h.
        let n : FirstNumeral nums at count ns = first-numeral nums at count ns h.stand h.counted more in
        rw (
          n.same,
          (member-at P.callables n.first.number (omega (arith, l, n.stands.holds.is, s.callables.count))).is,
        ) (j.judged ends P end n.others s (numerals-behind n) ∙ one_more (judge_actions P n.others) _);
  }

-- those before an index are there
pub record Existing (nums directory : List ℕ) (at count next : ℕ) : Type 0 where
  left : ℕ
  ended : next + left ≡ at + count
  asks : AsksExist nums next left
  rest : (r : Formal) → JudgesExist nums directory next left r → JudgesExist nums directory at count r

module _ (nums directory : List ℕ) (at count : ℕ) where
  module _ (h : AsksExist nums at count) where
    pub exist-end : at < 2 ^ 64 → Fits w64 (at + count)
    exist-end l =
        let few : length nums ≤ 2 ^ 64 - 1 = omega (arith, h.numbers) in
        let e : at + length h.numerals ≤ 2 ^ 64 - 1
        = numerals_end nums at h.numerals h.stand.stand (2 ^ 64 - 1) (omega (arith, l)) few in
        record { fits = omega (arith, e, h.stand.counted) }

    pub exist-first : Existing nums directory at count at
    exist-first = record { left = count; ended = refl; asks = h; rest = λ r j. j }

  module _ (next : ℕ) (e : Existing nums directory at count next) where
    pub exist-done : at + count ≤ next → JudgesExist nums directory at count (Ok tt)
    exist-done l = e.rest (Ok tt) (exist-none nums directory next e.left (omega (arith, e.ended, l)))

    module _ (l : next < at + count) where
      abbrev some_left : e.left ≡ 0 → ⊥
      some_left z = omega (arith, z, e.ended, l)

      named-first : FirstNumeral nums next e.left e.asks.numerals
      named-first = first-numeral nums next e.left e.asks.numerals e.asks.stand.stand e.asks.stand.counted some_left

      pub exist-inside : next < length nums
      exist-inside = named-first.stands.holds.inside

      pub exist-small : next + 1 < 2 ^ 64
      exist-small = omega (arith, exist-inside, e.asks.numbers)

      abbrev there : Bool
      there = ltb (get_or nums next 0) (get_or directory 42 0)

      pub exist-missing : (wrong : Fault) → Says (Err wrong) (need 6 next there)
          → JudgesExist nums directory at count (Err wrong)
      unfolding told_form
      exist-missing wrong s =
          let f : Failed 6 next there wrong = failed 6 next there wrong s in
          e.rest (Err wrong) (missing-here nums directory next e.left (Err wrong) f.told some_left
          (ltb-false (get_or nums next 0) (get_or directory 42 0) f.not_so))

      pub exist-next : Says (Ok tt) (need 6 next there) → Existing nums directory at count (next + 1)
      exist-next s = record {
        left = e.left - 1;
        ended = omega (arith, e.ended, l);
        asks = record {
          numerals = named-first.others;
          stand = numerals-behind named-first;
          numbers = e.asks.numbers;
        };
        rest = λ r j. e.rest r (exists-here nums directory next e.left r some_left
            (ltb-true (get_or nums next 0) (get_or directory 42 0) (held 6 next there s)) j);
      }

pub ruleset existing = (exist-end, exist-first, exist-done, exist-inside, exist-missing, exist-next)

-- that a table gives all parameters
gives : (d : Direction) (n : ℕ) → n ≡ direction_number d → n ≡ 0 → table_gives d ≡ true
unfolding direction_number table_gives
gives by_none n e z = refl
gives by_in n e z = absurd (omega (arith, e, z))
gives by_out n e z = absurd (omega (arith, e, z))
gives by_inout n e z = absurd (omega (arith, e, z))

gives-not : (d : Direction) (n : ℕ) → n ≡ direction_number d → (n ≡ 0 → ⊥) → table_gives d ≡ false
unfolding direction_number table_gives
gives-not by_none n e x = absurd (x e)
gives-not by_in n e x = refl
gives-not by_out n e x = refl
gives-not by_inout n e x = refl

module _ (nums : List ℕ) (at count : ℕ) where
  pub given-none : count ≡ 0 → GivesAll nums at count true
  unfolding table_gives_all
  given-none e = record { gives = go }
    where
      go : (ps : List Parameter) → ParametersAt nums at count ps → true ≡ table_gives_all ps
      go [] h = refl
      go (p ∷ ps) h = absurd (omega (arith, e, h.counted))

  pub given-here : (r : Bool) → (count ≡ 0 → ⊥) → get_or nums at 0 ≡ 0 → GivesAll nums (at + 2) (count - 1) r
      → GivesAll nums at count r
  unfolding table_gives_all
  given-here r more z j = record {
    gives = λ ps h.
        let p : FirstParameter nums at count ps = first-parameter nums at count ps h.stand h.counted more in
        rw (p.same, gives p.first.direction (get_or nums at 0) p.direction.is z)
        (j.gives p.others (parameters-behind p));
  }

  pub not-here : (count ≡ 0 → ⊥) → (get_or nums at 0 ≡ 0 → ⊥) → GivesAll nums at count false
  unfolding table_gives_all
  not-here more x = record {
    gives = λ ps h.
        let p : FirstParameter nums at count ps = first-parameter nums at count ps h.stand h.counted more in
        rw (p.same, gives-not p.first.direction (get_or nums at 0) p.direction.is x);
  }

-- so many are given
pub record Giving (nums : List ℕ) (at count done : ℕ) : Type 0 where
  asks : AsksGiven nums (at + 2 * done) (count - done)
  rest : (r : Bool) → GivesAll nums (at + 2 * done) (count - done) r → GivesAll nums at count r

module _ (nums : List ℕ) (at count : ℕ) where
  pub given-first : AsksGiven nums at count → Giving nums at count 0
  given-first h =
      let a : at + 2 * 0 ≡ at = omega arith in
      let c : count - 0 ≡ count = omega arith in
      record { asks = rw (a, c) h; rest = λ r j. rw (a, c) at j }

  module _ (done : ℕ) (g : Giving nums at count done) where
    pub given-done : count ≤ done → GivesAll nums at count true
    given-done l = g.rest true (given-none nums (at + 2 * done) (count - done) (omega (arith, l)))

    module _ (l : done < count) where
      abbrev given_left : count - done ≡ 0 → ⊥
      given_left z = omega (arith, z, l)

      first-given : FirstParameter nums (at + 2 * done) (count - done) g.asks.parameters
      first-given =
          first-parameter nums (at + 2 * done) (count - done) g.asks.parameters g.asks.stand.stand g.asks.stand.counted
          given_left

      pub given_inside : at + 2 * done < length nums
      given_inside = first-given.direction.inside

      pub given-double : Fits w64 (2 * done)
      given-double = record { fits = omega (arith, given_inside, g.asks.numbers) }

      pub given-small : Fits w64 (at + 2 * done)
      given-small = record { fits = omega (arith, given_inside, g.asks.numbers) }

      -- the index behind it
      pub given-behind : at + 2 * done + 2 < 2 ^ 64
      given-behind = omega (arith, given_inside, g.asks.numbers)

      pub given-not : (get_or nums (at + 2 * done) 0 ≡ 0 → ⊥) → GivesAll nums at count false
      given-not x = g.rest false (not-here nums (at + 2 * done) (count - done) given_left x)

      pub given-next : get_or nums (at + 2 * done) 0 ≡ 0 → Giving nums at count (done + 1)
      given-next z =
          let a : at + 2 * (done + 1) ≡ at + 2 * done + 2 = omega arith in
          let c : count - (done + 1) ≡ count - done - 1 = omega arith in
          record {
            asks = rw (a, c) (record {
              parameters = first-given.others;
              stand = parameters-behind first-given;
              numbers = g.asks.numbers;
            });
            rest = λ r j. g.rest r (given-here nums (at + 2 * done) (count - done) r given_left z (rw (a, c) at j));
          }

pub ruleset giving = (given-first, given-done, given_inside, given-double, given-small, given-not, given-next)

-- the callable that the first number names
record FirstNamed (P : Program) (n : Numeral) (ns : List Numeral) (cs : List Callable) : Type 0 where
  first : Callable
  others : List Callable
  same : cs ≡ first ∷ others
  is : get_elem? P.callables n.number ≡ some first
  rest : NamesAll P ns others

first-named : {P : Program} {n : Numeral} {ns : List Numeral} {cs : List Callable} → NamesAll P (n ∷ ns) cs
    → FirstNamed P n ns cs
first-named (names-next e h) = record { first = _; others = _; same = refl; is = e; rest = h }

open-listed : (ns : List Numeral) (cs : List Callable) (n : Numeral) (ns₂ : List Numeral) (c : Callable)
    (cs₂ : List Callable) → ns ≡ n ∷ ns₂ → cs ≡ c ∷ cs₂
    → judge_listed ns cs ≡ (need 8 n.at (listable c) >>= λ _. judge_listed ns₂ cs₂)
unfolding judge_listed
open-listed ns cs n ns₂ c cs₂ e f = rw (e, f)

module _ (nums directory ends : List ℕ) (at count : ℕ) (more : count ≡ 0 → ⊥) where
  -- a listed action and the callable that it names
  record Listed (P : Program) (ns : List Numeral) (cs : List Callable) : Type 0 where
    numeral : FirstNumeral nums at count ns
    callable : FirstNamed P numeral.first numeral.others cs
    is : get_elem? P.callables (get_or nums at 0) ≡ some callable.first

  listed-first : (P : Program) (ns : List Numeral) (cs : List Callable) → NumeralsAt nums at count ns → NamesAll P ns cs
      → Listed P ns cs
  listed-first P ns cs h k =
      let n : FirstNumeral nums at count ns = first-numeral nums at count ns h.stand h.counted more in
      let c : FirstNamed P n.first n.others cs = first-named (rw n.same at k) in
      record { numeral = n; callable = c; is = rw n.stands.holds.is c.is }

  module _ (h : AsksListed nums directory ends at count) where
    listed : Listed h.program h.numerals h.callables
    listed = listed-first h.program h.numerals h.callables h.stand h.names

    here-inside : at < length nums
    here-inside = listed.numeral.stands.holds.inside

    here-head : Has callables_of nums directory ends (get_or nums at 0)
    unfolding callables_of
    here-head = record {
      program = h.program;
      end = h.end;
      stands = h.stands;
      inside = member-in h.program.callables (get_or nums at 0) listed.callable.first listed.is;
    }

    here-given : (kind returns parameters parameter_count : ℕ)
        → Finds callables_of (FoundHead nums kind returns parameters parameter_count) nums directory ends (get_or nums at 0)
        → AsksGiven nums parameters parameter_count
    unfolding callables_of
    here-given kind returns parameters parameter_count f =
        let d : FoundHead nums kind returns parameters parameter_count listed.callable.first
        = f.finds h.program h.end listed.callable.first h.stands listed.is in
        record {
          parameters = listed.callable.first.parameters;
          stand = record { stand = d.parameters_stand; counted = d.count_is };
          numbers = h.stands.numbers;
        }

    pub listed-left : AsksListed nums directory ends (at + 1) (count - 1)
    listed-left = record {
      program = h.program;
      end = h.end;
      numerals = listed.numeral.others;
      callables = listed.callable.others;
      stands = h.stands;
      stand = numerals-behind listed.numeral;
      names = listed.callable.rest;
    }

  module _ (kind returns parameters parameter_count : ℕ) (k : Kind) (own : k ≡ kind_numbered kind) (given action fine : Bool)
      (f : Finds callables_of (FoundHead nums kind returns parameters parameter_count) nums directory ends
      (get_or nums at 0)) (g : GivesAll nums parameters parameter_count given) (same : action ≡ is_kind k kinds.Action) (is : fine ≡ (action && given))
    where
      listable-is : (P : Program) (end : ℕ) (ns : List Numeral) (cs : List Callable)
          → StandsProgram nums directory ends P end → (l : Listed P ns cs) (b : Bool) → fine ≡ b
          → listable l.callable.first ≡ b
      unfolding callables_of listable
      listable-is P end ns cs s l b e =
          let d : FoundHead nums kind returns parameters parameter_count l.callable.first
          = f.finds P end l.callable.first s l.is in
          rw (
            is-action k kind l.callable.first.returns own d.kind_is,
            ← same,
            ← g.gives l.callable.first.parameters (record { stand = d.parameters_stand; counted = d.count_is }),
          ) (sym is ∙ e)

      pub unlisted-here : (r : Formal) → told_form r ≡ fault 8 at → fine ≡ false
          → JudgesListed nums directory ends at count r
      unfolding judge_listed need ◌>>=◌
      unlisted-here r f e = record {
        judged = λ P end ns cs s h k.
            let l : Listed P ns cs = listed-first P ns cs h k in
            f
            ∙ sym (open-listed ns cs _ _ _ _ l.numeral.same l.callable.same
            ∙ rw (listable-is P end ns cs s l false e, l.numeral.stands.index));
      }

      pub listed-here : (r : Formal) → fine ≡ true → JudgesListed nums directory ends (at + 1) (count - 1) r
          → JudgesListed nums directory ends at count r
      unfolding judge_listed need ◌>>=◌
      listed-here r e j = record {
        judged = λ P end ns cs s h k.
            let l : Listed P ns cs = listed-first P ns cs h k in
            j.judged P end l.numeral.others l.callable.others s (numerals-behind l.numeral) l.callable.rest
            ∙ sym (open-listed ns cs _ _ _ _ l.numeral.same l.callable.same
            ∙ rw (listable-is P end ns cs s l true e));
      }

pub listed-none : (nums directory ends : List ℕ) (at count : ℕ) → count ≡ 0
    → JudgesListed nums directory ends at count (Ok tt)
unfolding told_form judge_listed
listed-none nums directory ends at count e = record { judged = λ P end ns cs s h k. go ns cs h }
  where
    go : (ns : List Numeral) (cs : List Callable) → NumeralsAt nums at count ns → told_form (Ok tt) ≡ judge_listed ns cs
    go [] cs h = refl
    go (n ∷ ns) cs h = absurd (omega (arith, e, h.counted))

-- those before an index may be listed
pub record Listing (nums directory ends : List ℕ) (at count next : ℕ) : Type 0 where
  left : ℕ
  ended : next + left ≡ at + count
  asks : AsksListed nums directory ends next left
  rest : (r : Formal) → JudgesListed nums directory ends next left r → JudgesListed nums directory ends at count r

module _ (nums directory ends : List ℕ) (at count : ℕ) where
  module _ (h : AsksListed nums directory ends at count) where
    pub listed-end : at < 2 ^ 64 → Fits w64 (at + count)
    listed-end l =
        let few : length nums ≤ 2 ^ 64 - 1 = omega (arith, h.stands.numbers) in
        let e : at + length h.numerals ≤ 2 ^ 64 - 1
        = numerals_end nums at h.numerals h.stand.stand (2 ^ 64 - 1) (omega (arith, l)) few in
        record { fits = omega (arith, e, h.stand.counted) }

    pub listed-start : Listing nums directory ends at count at
    listed-start = record { left = count; ended = refl; asks = h; rest = λ r j. j }

  module _ (next : ℕ) (e : Listing nums directory ends at count next) where
    pub listed-done : at + count ≤ next → JudgesListed nums directory ends at count (Ok tt)
    listed-done l = e.rest (Ok tt) (listed-none nums directory ends next e.left (omega (arith, e.ended, l)))

    module _ (l : next < at + count) where
      abbrev more_left : e.left ≡ 0 → ⊥
      more_left z = omega (arith, z, e.ended, l)

      pub listed-inside : next < length nums
      listed-inside = here-inside nums directory ends next e.left more_left e.asks

      pub listed_small : next + 1 < 2 ^ 64
      listed_small = omega (arith, listed-inside, e.asks.stands.numbers)

      pub listed-head : Has callables_of nums directory ends (get_or nums next 0)
      listed-head = here-head nums directory ends next e.left more_left e.asks

      module _ (kind returns parameters parameter_count : ℕ)
          (f : Finds callables_of (FoundHead nums kind returns parameters parameter_count) nums directory ends
          (get_or nums next 0)) where
        pub listed-given : AsksGiven nums parameters parameter_count
        listed-given =
            here-given nums directory ends next e.left more_left e.asks kind returns parameters parameter_count f

        module _ (k : Kind) (own : k ≡ kind_numbered kind) (given action fine : Bool)
            (g : GivesAll nums parameters parameter_count given) (same : action ≡ is_kind k kinds.Action)
            (is : fine ≡ (action && given)) where
          pub listed-not : (wrong : Fault) → Says (Err wrong) (need 8 next fine)
              → JudgesListed nums directory ends at count (Err wrong)
          unfolding told_form
          listed-not wrong s =
              let z : Failed 8 next fine wrong = failed 8 next fine wrong s in
              e.rest (Err wrong) (unlisted-here nums directory ends next e.left more_left kind returns parameters
              parameter_count k own given action fine f g same is (Err wrong) z.told z.not_so)

          pub listed_next : Says (Ok tt) (need 8 next fine) → Listing nums directory ends at count (next + 1)
          listed_next s = record {
            left = e.left - 1;
            ended = omega (arith, e.ended, l);
            asks = listed-left nums directory ends next e.left more_left e.asks;
            rest = λ r j. e.rest r (listed-here nums directory ends next e.left more_left kind returns parameters
                parameter_count k own given action fine f g same is r (held 8 next fine s) j);
          }

pub ruleset listing = (
  listed-end,
  listed-start,
  listed-done,
  listed-inside,
  listed-head,
  listed-given,
  listed-not,
  listed_next,
)
