-- The parser from its start: state 0 with the packet's index set, where there are states.
use Rattle.program.specs.declared.Scope as coded
use mathlib.Core.Bool.{false≢true}
use mathlib.Core.Path.{◌≡◌, refl, ◌∙◌, sym}
use mathlib.Core.List.{List, [], ◌∷◌}
use Prim.Native.Nat.{ℕ, ◌+◌, ◌≤◌}
use native.Mathlib.Omega.{arith}
use lib.ListN.{length, get_or, set}
use lib.Seq.{get_or-set_other}
use Rattle.rules.specs.Syntax.{ParserState, Program}
use Rattle.rules.specs.Form.{is_apply, apply_scope, state_scope}
use Rattle.rules.specs.Lists.{Entry}
use Rattle.rules.specs.Running.{State, onward, done, pure, run_parser}
use Rattle.shape.specs.Directory.{states_slot}
use Rattle.program.proofs.Seen.{state_slots, state-scope}
use Rattle.store.specs.Mirrors.{counter_slot, position_slot, Unread}
use Rattle.store.proofs.Scenes.{scene-state, scene-apply}
use Rattle.steps.specs.declared.Ended.{Ended}
use Rattle.steps.specs.declared.Ended.TheVariants.{Onward}
use Rattle.steps.specs.Outcomes.{Goes, counter_of, Ran, Ends, ends-onward}
use Rattle.steps.proofs.Going.{ran-here}
use Rattle.runner.specs.Runs.{Stage}
use Rattle.runner.specs.Parsing.{state_in, parser_in, AsksState, RunsState, AsksParser, RunsParser}

-- with no state the run goes on at once; with some it begins at state 0
none_is : (P : Program) (used : ℕ) (s : State) (ss : List ParserState) → P.states ≡ ss → ss ≡ []
    → parser_in P used s ≡ done onward s []
unfolding parser_in run_parser pure
none_is P used s ss e q = rw (e, q) refl

some_is : (P : Program) (used : ℕ) (s : State) → (P.states ≡ [] → ⊥) → parser_in P used s ≡ state_in P used 0 s
some_is P used s x = go P.states refl
  where
    go : (ss : List ParserState) → P.states ≡ ss → parser_in P used s ≡ state_in P used 0 s
    go [] e = absurd (x e)
    go (y ∷ ss) e = unfold parser_in state_in run_parser in rw e refl

no-states : (ss : List ParserState) → length ss ≡ 0 → ss ≡ []
no-states [] e = refl
no-states (x ∷ ss) e = absurd (omega (arith, e))

module _ (nums directory ends slots frame : List ℕ) (store size : ℕ) where
  abbrev placed : List ℕ
  placed = set slots position_slot (store + size + 1)

  -- at any stage
  module _ (P : Program) {scope : coded.Scope} {used : ℕ} {es : List Entry} {s : State}
      (st : Stage nums directory ends scope slots frame (apply_scope P) used es s) where
    counted : length P.states ≡ get_or directory states_slot 0
    unfolding apply_scope
    counted = sym st.scene.scopes.program.states.count

    none-ran : get_or directory states_slot 0 ≡ 0
        → Ran nums directory ends scope slots slots frame frame (apply_scope P) (parser_in P used s) (Ends Onward)
    none-ran q = ran-here s onward st.scene
        (none_is P used s P.states refl (no-states P.states (counted ∙ q))) ends-onward

    module _ (u : (P.states ≡ [] → ⊥) → Unread nums (store + size + 1) s.packet)
        (g : Goes (counter_of slots) (parser_in P used s)) (q : get_or directory states_slot 0 ≡ 0 → ⊥) where
      some : P.states ≡ [] → ⊥
      some e = q (sym counted ∙ rw e refl)

      counter-stays : counter_of placed ≡ counter_of slots
      counter-stays = get_or-set_other slots position_slot counter_slot (store + size + 1) 0 (λ e. absurd (omega (arith, e)))

      first-stage : Stage nums directory ends (state_slots directory) placed frame (state_scope P) used es s
      unfolding apply_scope state_scope is_apply
      first-stage = record {
        scene = scene-state nums directory ends scope (state_slots directory) slots frame P s (store + size + 1)
            st.scene (state-scope nums directory ends P st.scene.scopes.end st.scene.scopes.program) (u some);
        tables = st.tables;
        few = st.few;
        room = st.room;
        apply = λ e. absurd (false≢true e);
      }

      first_goes : Goes (counter_of placed) (state_in P used 0 s)
      first_goes = rw counter-stays (rw (some_is P used s some) at g)

      parser-ran : {slots₁ frame₁ : List ℕ} {r : Ended}
          → Ran nums directory ends (state_slots directory) placed slots₁ frame frame₁ (state_scope P)
          (state_in P used 0 s) (Ends r)
          → Ran nums directory ends scope slots slots₁ frame frame₁ (apply_scope P) (parser_in P used s) (Ends r)
      parser-ran {slots₁} {frame₁} h = record {
        answer = h.answer;
        state = h.state;
        seen = h.seen;
        is = some_is P used s some ∙ h.is;
        scene = scene-apply nums directory ends scope (state_slots directory) slots₁ frame₁ P h.state h.scene
            st.scene.scopes;
        counted = omega (arith, h.counted, counter-stays);
        same = h.same;
        answers = h.answers;
      }

  module _ (a : AsksParser nums directory ends slots frame store size) where
    pub parser-directory : length directory ≡ 217
    parser-directory = a.stage.scene.scopes.program.slots

    pub record PacketRoom : Type 0 where
      pub inside : store + size + 1 ≤ length nums
      pub few : length nums ≤ 4096

    pub packet-room : (get_or directory states_slot 0 ≡ 0 → ⊥) → PacketRoom
    packet-room q = record {
      inside = (a.unread (some a.program a.stage a.unread a.going q)).inside;
      few = a.stage.scene.scopes.program.numbers;
    }

    pub parser-asks : (found : coded.Scope) → (get_or directory states_slot 0 ≡ 0 → ⊥) → found ≡ state_slots directory
        → AsksState nums directory ends found placed frame 0
    parser-asks found q e = rw e (record {
      program = a.program;
      used = a.used;
      entry_list = a.entry_list;
      state = a.state;
      stage = first-stage a.program a.stage a.unread a.going q;
      going = first_goes a.program a.stage a.unread a.going q;
    })

  pub no-parser : get_or directory states_slot 0 ≡ 0
      → RunsParser nums directory ends slots slots frame frame store size Onward
  no-parser q = record { runs = λ scope P used es s st u g. none-ran P st q }

  pub parser-runs : (found : coded.Scope) (slots₁ frame₁ : List ℕ) (r : Ended)
      → (get_or directory states_slot 0 ≡ 0 → ⊥) → found ≡ state_slots directory
      → RunsState nums directory ends found placed slots₁ frame frame₁ 0 r
      → RunsParser nums directory ends slots slots₁ frame frame₁ store size r
  parser-runs found slots₁ frame₁ r q e k = record {
    runs = λ scope P used es s st u g. parser-ran P st u g q
        ((rw e at k).runs P used es s (first-stage P st u g q) (first_goes P st u g q));
  }

pub ruleset parser_runs = (parser-directory, parser-asks, no-parser, parser-runs)
