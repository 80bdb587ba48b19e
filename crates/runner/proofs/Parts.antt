-- The slots that a call is lent: those of its caller's frame behind the caller's own. What it leaves in them is put back.
use Rattle.program.specs.declared.Scope as coded
use mathlib.Core.Path.{◌≡◌, ◌∙◌, sym, ap}
use mathlib.Core.List.{List, ◌++◌}
use Prim.Native.Nat.{ℕ, ◌+◌, ◌-◌, ◌≤◌, ◌<◌}
use native.Mathlib.Omega.{arith}
use lib.ListN.{length, get_or, set, take, drop, length-drop, length-set, get_or-append}
use lib.Seq.{get_or-take, get_or-drop, get_or-set_other, length-take-le, drop_at}
use borrow.Author.Rules.{part_to_end}
use borrow.Rule.Slice.PartMut.{put_mid, post_of, take_put, same_len_mid}
use Rattle.rules.specs.Form.{Scope}
use Rattle.rules.specs.Running.{State}
use Rattle.rules.proofs.Fits.{all2-length}
use Rattle.store.specs.Mirrors.{Scene}
use Rattle.steps.specs.Outcomes.{Laid}
use Rattle.steps.specs.Calls.{own_of}

module _ (frame : List ℕ) (own : ℕ) where
  abbrev pub lent_part : List ℕ
  lent_part = take (length frame - own) (drop own frame)

  abbrev pub put_back : List ℕ → List ℕ
  put_back part = put_mid own (length frame - own) frame part

  pub part_length : own ≤ length frame → own + length lent_part ≡ length frame
  part_length h = omega (arith, ap length (part_to_end frame own), length-drop own frame)

  pub part_at : (i : ℕ) → get_or lent_part i 0 ≡ get_or frame (own + i) 0
  part_at i = rw (part_to_end frame own) (get_or-drop own frame i 0)

  module _ (part : List ℕ) (h : own ≤ length frame) (same : length part ≡ length lent_part) where
    pub back-length : length (put_back part) ≡ length frame
    back-length = same_len_mid own (length frame - own) frame part same

    pub back_below : (i : ℕ) → i < own → get_or (put_back part) i 0 ≡ get_or frame i 0
    back_below i l =
        sym (get_or-take own (put_back part) i 0 l)
        ∙ (ap (λ (z : List ℕ). get_or z i 0) (take_put own (length frame - own) frame part h) ∙ get_or-take own frame i 0 l)

    pub back-behind : (i : ℕ) → i < length part → get_or (put_back part) (own + i) 0 ≡ get_or part i 0
    back-behind i l =
        sym (get_or-drop own (put_back part) i 0)
        ∙ (ap (λ (z : List ℕ). get_or z i 0) (drop_at (take own frame) (part ++ post_of own (length frame - own) frame) own
        (length-take-le own frame h))
        ∙ get_or-append part (post_of own (length frame - own) frame) 0 i l)

-- numbers that are laid out behind a body's own slots, and in the part
pub part-laid : (frame : List ℕ) (own : ℕ) (ns : List ℕ) → Laid frame own ns → Laid (lent_part frame own) 0 ns
part-laid frame own ns l = record {
  is = λ i h.
      let e : 0 + i ≡ i = omega arith in
      rw e (part_at frame own i ∙ l.is i h);
}

pub back-laid : (frame : List ℕ) (own : ℕ) (part ns : List ℕ) → own ≤ length frame
    → length part ≡ length (lent_part frame own) → length ns ≤ length part → Laid part 0 ns
    → Laid (put_back frame own part) own ns
back-laid frame own part ns h same few l = record {
  is = λ i k.
      let e : 0 + i ≡ i = omega arith in
      back-behind frame own part h same i (omega (arith, few)) ∙ rw e at (l.is i k);
}

-- a slot behind a body's own is no part of its scene
pub scene-kept : {nums directory ends : List ℕ} {scope : coded.Scope} {slots frame : List ℕ} {Γ : Scope} {s : State} (slot n : ℕ)
    → Scene nums directory ends scope slots frame Γ s → own_of Γ ≤ slot
    → Scene nums directory ends scope slots (set frame slot n) Γ s
scene-kept {frame = frame} {Γ = Γ} {s = s} slot n h own =
    let few : length s.parameters + length s.locals ≡ own_of Γ
    = omega (arith, all2-length h.fits.parameters-fit, all2-length h.fits.locals-fit) in
    record {
      scopes = h.scopes;
      offset = h.offset;
      fits = h.fits;
      store = h.store;
      frames = record {
        room = omega (arith, h.frames.room, length-set frame slot n);
        parameter = λ i l.
            get_or-set_other frame slot i n 0 (λ e. absurd (omega (arith, e, few, own))) ∙ h.frames.parameter i l;
        local = λ i l.
            get_or-set_other frame slot (length s.parameters + i) n 0 (λ e. absurd (omega (arith, e, few, own)))
            ∙ h.frames.local i l;
      };
      packet = h.packet;
    }
