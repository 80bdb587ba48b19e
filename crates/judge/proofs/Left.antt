-- What the judge leaves of a file that it accepts: the program, entries and store of the rules, and where they stand.
use mathlib.Core.Bool.{Bool, true, false}
use mathlib.Core.Path.{◌≡◌, refl, ◌∙◌}
use mathlib.Core.List.{List}
use Prim.Native.Nat.{ℕ, suc}
use native.Mathlib.Omega.{arith}
use lib.Dec.{leb}
use lib.ListN.{length, drop}
use Rattle.rules.specs.Syntax.{Program}
use Rattle.rules.specs.Reading.{Got, got, bad, and_then, ◌>>=◌, pure, read_program, most_globals}
use Rattle.rules.specs.Form.{Res, ok, fault, need, judge_program}
use Rattle.rules.specs.Ceiling.{most_steps, ceiling_of}
use Rattle.rules.specs.Lists.{most_entries}
use Rattle.rules.specs.Answers.{checked, judging_program, judging}
use Rattle.rules.proofs.Readers.{Kept, keeps-program}
use Rattle.shape.specs.Ends.{ScansProgram}
use Rattle.shape.specs.Scans.{forget, scan_of}
use Rattle.shape.specs.Scans.{Past}
use Rattle.program.specs.Stands.{StandsProgram}
use Rattle.program.specs.Keys.{WidthsOf}
use Rattle.form.proofs.Laid.{keys-laid}
use Rattle.lists.specs.Listing.{Listed, Fine, Fault, Lists, listing, listed_of, ListsJudged}
use Rattle.lists.specs.Stands.{ListsStand}
use Rattle.lists.proofs.Laid.{listing-made, lists-stand}
use Rattle.std.specs.Prelude.{Ok}
use Rattle.judge.specs.declared.Verdict as coded
use Rattle.judge.specs.Verdicts.{Verdict, Accepted, after_lists, after_ceiling, after_form, after_shape, widths_after, lists_judged, entries_after, offsets_after, AsksJudge, JudgesNumbers}
use Rattle.judge.proofs.Bridge.{bench, behind}
use Rattle.judge.proofs.Passes.{stands, fine-judged}

pub record Leaves (nums directory ends widths entries offsets : List ℕ) (ceiling store size : ℕ) : Type 0 where
  pub program : Program
  pub end : ℕ
  pub stands : StandsProgram nums directory ends program end
  pub formed : judge_program program ≡ ok tt
  pub ceiling_is : ceiling ≡ ceiling_of program
  pub wide : WidthsOf program widths
  pub lists : ListsStand program end nums entries offsets store size
  pub judged : judging nums 0 ≡ got (bench program lists.entry_list lists.cells lists.packet) lists.left
      lists.next

-- an accepted file passed each pass
module _ (ceiling store size : ℕ) (P : Program) (left : List ℕ) (end : ℕ) where
  abbrev yes : Verdict
  yes = Accepted ceiling store size

  after-lists : (n : ℕ) (l : Listed) → yes ≡ after_lists n l → (ceiling ≡ n) × (Fine store size ≡ l)
  unfolding after_lists
  after-lists n (Fine s z) e = let a : ceiling ≡ n = cc in let b : Fine store size ≡ Fine s z = cc in (a, b)
  after-lists n (Fault number index) e = let z : ◌≡◌ {A = ℕ} 0 1 = cc in absurd (omega arith)

  after-ceiling : (b : Bool) → yes ≡ after_ceiling P left end b
      → (b ≡ true) × (yes ≡ after_lists (ceiling_of P) (listed_of end (listing P left end)))
  unfolding after_ceiling
  after-ceiling true e = (refl, e)
  after-ceiling false e = let z : ◌≡◌ {A = ℕ} 0 1 = cc in absurd (omega arith)

  after-form : (r : Res (Unit {0})) → yes ≡ after_form P left end r
      → (r ≡ ok tt) × (yes ≡ after_ceiling P left end (leb (ceiling_of P) most_steps))
  unfolding after_form
  after-form (ok tt) e = (refl, e)
  after-form (fault number index) e = let z : ◌≡◌ {A = ℕ} 0 1 = cc in absurd (omega arith)

-- the rules read the same
behind-is : (P : Program) (left : List ℕ) (end : ℕ) (lists : Lists) (rest : List ℕ) (next : ℕ)
    → listing P left end ≡ got lists rest next
    → behind P left end ≡ got (bench P lists.entries lists.cells lists.packet) rest next
unfolding behind ◌>>=◌ and_then pure
behind-is P left end lists rest next e = listing-made P (bench P) left end ∙ rw e refl

judging-is : (nums : List ℕ) (P : Program) (left : List ℕ) (end : ℕ) (lists : Lists) (rest : List ℕ)
    (next : ℕ) → read_program nums 0 ≡ got P left end → judge_program P ≡ ok tt → leb (ceiling_of P) most_steps ≡ true
    → listing P left end ≡ got lists rest next
    → judging nums 0 ≡ got (bench P lists.entries lists.cells lists.packet) rest next
unfolding judging judging_program behind checked need ◌>>=◌ and_then
judging-is nums P left end lists rest next read formed bounded listed =
    rw (read, formed, bounded) (behind-is P left end lists rest next listed)

module _ (nums directory directory' ends ends' widths widths' entries entries' offsets offsets' : List ℕ)
    (v : coded.Verdict) where
  pub accepted-leaves : JudgesNumbers nums directory directory' ends ends' widths widths' entries entries' offsets
      offsets' (Ok v)
      → AsksJudge nums directory ends widths → length entries ≡ suc most_entries → length offsets ≡ suc most_globals
      → Leaves nums directory' ends' widths' entries' offsets' v.ceiling v.store v.length
  unfolding Kept
  accepted-leaves j a entry_room offset_room = go (read_program nums 0) refl (keeps-program.kept nums 0)
    where
      go : (x : Got Program) → read_program nums 0 ≡ x → Kept nums 0 x
          → Leaves nums directory' ends' widths' entries' offsets' v.ceiling v.store v.length
      go (bad number index) q k = unfold after_shape in
          let e : Accepted v.ceiling v.store v.length ≡ after_shape (bad number index) = rw q at j.verdict in
          let z : ◌≡◌ {A = ℕ} 0 1 = cc in absurd (omega arith)
      go (got P left end) q k = unfold after_shape widths_after entries_after offsets_after scan_of forget in
          let read : read_program nums 0 ≡ got P (drop end nums) end = q ∙ rw k.rest refl in
          let fine : Accepted v.ceiling v.store v.length ≡ after_form P (drop end nums) end (judge_program P) = rw read at j.verdict in
          let f = after-form v.ceiling v.store v.length P (drop end nums) end (judge_program P) fine in
          let b = after-ceiling v.ceiling v.store v.length P (drop end nums) end (leb (ceiling_of P) most_steps) f.1 in
          let l = after-lists v.ceiling v.store v.length P (drop end nums) end (ceiling_of P)
          (listed_of end (listing P (drop end nums) end)) b.1 in
          let both : lists_judged P ≡ true = fine-judged P f.0 ∙ b.0 in
          let scans : ScansProgram nums directory directory' ends ends' (Past end)
          = record { answer = rw read refl; parts = j.directory_is; laid = j.ends_are } in
          let s : StandsProgram nums directory' ends' P end
          = stands nums directory directory' ends ends' end scans a.lent
          (record { program = P; read = read }) in
          let lists : ListsJudged P end nums entries entries' offsets offsets' (Fine v.store v.length) = record {
            answer = l.1;
            entries_are = rw (read, both, entries_after) at j.entries_are;
            offsets_are = rw (read, both, offsets_after) at j.offsets_are;
          } in
          let stand = lists-stand nums directory' ends' entries entries' offsets offsets' v.store v.length P end lists entry_room
          offset_room s in
          record {
            program = P;
            end = end;
            stands = s;
            formed = f.0;
            ceiling_is = l.0;
            wide = rw (j.widths_are, read) (keys-laid nums directory' ends' P end s widths a.keys f.0);
            lists = stand;
            judged = judging-is nums P (drop end nums) end (record {
              entries = stand.entry_list;
              cells = stand.cells;
              packet = stand.packet;
            }) stand.left stand.next read
                f.0 b.0 stand.read;
          }
