-- A step that is taken: what it wrote is what was decided.
use mathlib.Core.Path.{◌≡◌, refl, sym, ◌∙◌}
use Rattle.std.proofs.Common.{rules}
use Rattle.memory.proofs.Sizes.{size_passes, worded_passed}
use Rattle.calls.proofs.Stepping.{left_stepped}
use Rattle.calls.proofs.step.step.Goals as goal

pub unwrap-words-requires : goal.unwrap-words-requires
unwrap-words-requires c = c.as_mut_array-2.ensures.variant.1 (worded_passed _ _ _ (sym c.in-Ok.is ∙ c.sized.ensures))

pub returns : goal.returns
returns c =
    let k : c.unwrap-keys.result.now ≡ c.args.keys.now = search rules in
    let w : c.unwrap-words.result.now ≡ c.args.words.now = search rules in
    left_stepped _ _ _ _ _ (size_passes _ _ (sym c.in-Ok.is ∙ c.sized.ensures)) (sym c.if-not-worker_fits.ensures)
    _ _ _ _ _ (sym c.if-not-busy_at.ensures) c.worker_at-w.ensures (rw (k, w) at c.step_record-s.ensures.value) c.put.ensures refl (rw (k, w) at c.step_record-s.ensures.hold)
