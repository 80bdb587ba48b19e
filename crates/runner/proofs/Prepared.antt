-- The directory as a run finds it: its parts as they were, and behind them what the judge left.
use mathlib.Core.Path.{◌≡◌, ◌∙◌}
use mathlib.Core.List.{List, [], ◌∷◌}
use Prim.Native.Nat.{ℕ, ◌+◌, ◌-◌, ◌*◌, ◌≤◌, ◌<◌}
use native.Mathlib.Omega.{arith}
use lib.ListN.{length, get_or}
use Rattle.rules.specs.Syntax.{Program}
use Rattle.rules.specs.Reading.{most_globals, most_keys}
use Rattle.rules.specs.Form.{ok, judge_program}
use Rattle.rules.specs.Lists.{Entry, most_entries}
use Rattle.shape.specs.Directory.{body_slot, end_slot, offsets_slot, entries_slot, widths_slot}
use Rattle.program.specs.Stands.{StandsList, StandsProgram}
use Rattle.program.specs.Keys.{WidthsOf}
use Rattle.program.proofs.Found.{member-in}
use Rattle.store.specs.Mirrors.{OffsetsOf}
use Rattle.lookup.specs.LookingUp.{StandsEntries}
use Rattle.runner.specs.Runs.{Tables}
use Rattle.runner.specs.Prepares.{Prepares}

-- what stood stands
module _ {offsets entries widths directory directory' : List ℕ} (p : Prepares offsets entries widths directory directory')
  where
    list-kept : {A : Type 0} {Stands : ℕ → A → Type 0} {slot most : ℕ} {xs : List A} → slot + most < offsets_slot
        → StandsList Stands directory slot most xs → StandsList Stands directory' slot most xs
    list-kept {slot = slot} {xs = xs} l h = record {
      count = p.parts slot (omega arith) ∙ h.count;
      few = h.few;
      member = λ i x e.
          let inside : i < length xs = member-in xs i x e in
          rw (p.parts (slot + 1 + i) (omega (arith, h.few))) (h.member i x e);
    }

    pub program-kept : {nums ends : List ℕ} {P : Program} {end : ℕ} → StandsProgram nums directory ends P end
        → StandsProgram nums directory' ends P end
    program-kept s = record {
      numbers = s.numbers;
      version = s.version;
      room = s.room;
      slots = p.same ∙ s.slots;
      headers = list-kept (omega arith) s.headers;
      globals = list-kept (omega arith) s.globals;
      callables = list-kept (omega arith) s.callables;
      tables = list-kept (omega arith) s.tables;
      states = list-kept (omega arith) s.states;
      body = rw (p.parts body_slot (omega arith)) s.body;
      ending = p.parts end_slot (omega arith) ∙ s.ending;
    }

    pub offsets-laid : {P : Program} → length P.globals ≤ most_globals → OffsetsOf P offsets 0
        → OffsetsOf P directory' offsets_slot
    offsets-laid few o = record {
      is = λ g h.
          let first : 0 + g ≡ g = omega arith in
          p.offset g (omega (arith, few)) ∙ rw first at (o.is g h);
    }

    entries_from : (P : Program) (nums : List ℕ) (i : ℕ) (es : List Entry) → i + length es ≤ most_entries + 1
        → StandsEntries P nums entries i es → StandsEntries P nums directory' (entries_slot + i) es
    unfolding StandsEntries
    entries_from P nums i [] few h = tt
    entries_from P nums i (e ∷ es) few h =
        let next : entries_slot + i + 1 ≡ entries_slot + (i + 1) = omega arith in
        (rw (p.entry i (omega arith)) h.0, rw next (entries_from P nums (i + 1) es (omega arith) h.1))

    pub tables-laid : {P : Program} {nums ends : List ℕ} {end : ℕ} {es : List Entry}
        → StandsProgram nums directory ends P end → judge_program P ≡ ok tt → StandsEntries P nums entries 1 es
        → get_or entries 0 0 ≡ length es → length es ≤ most_entries → WidthsOf P widths → Tables nums directory' P es
    tables-laid {P = P} {nums = nums} {es = es} s j h n few w = record {
      judged = j;
      stand = entries_from P nums 1 es (omega arith) h;
      count = p.entry 0 (omega arith) ∙ n;
      few = few;
      wide = λ t i T k e q.
          let there : widths_slot + (most_keys * t + i) ≡ widths_slot + most_keys * t + i = omega arith in
          let table : t < length P.tables = member-in P.tables t T e in
          let key : i < length T.keys = member-in T.keys i k q in
          let many : length T.keys ≤ most_keys = (s.tables.member t T e).key_count.at_most in
          let is = rw there at (p.width (most_keys * t + i) (omega (arith, s.tables.few))) in
          (is ∙ w.is t i T k e q, rw is (w.most t i T k e q));
    }
