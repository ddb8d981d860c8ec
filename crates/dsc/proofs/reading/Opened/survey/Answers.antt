use Rattle.std.proofs.Common.{◌≡◌, ℕ, ◌+◌, ◌*◌, ◌⊎◌, ◌++◌, List, length, inl, inr, ap, ◌∙◌, sym, subst, arith, length-append}
use Rattle.dsc.specs.Scans.{Read, read}
use Rattle.dsc.specs.ScanAnswers.{Room}
use Rattle.dsc.specs.Readings.{numbers}
use Rattle.dsc.proofs.Came.{came_on, came_leaf, came_done}
use Rattle.dsc.proofs.Rooms.{is_meant, room}
use Rattle.dsc.proofs.reading.Opened.survey.Goals as goal

pub loop-ink-preserved : goal.loop-ink-preserved
loop-ink-preserved c =
    let inv = c.loop-ink.invariant in
    let file = c.args.self.now.file.now in
    let v = c.loop-ink.ink-iterator in
    let w = c.next.new.self in
    let ink = c.in_ok-leaves.field-0 in
    let steps = rw c.in_ok-leaves.was at c.in-Some.ensures.steps in
    (inv.0 ++ numbers ink, came_on file inv.0 v w inv.1 ink steps, inr (omega (arith, length-append inv.0 (numbers ink), came_leaf file inv.0 v w inv.1 ink steps)))

-- the last ink is that of the last leaf
last : (n leaves long : ℕ) → long ≡ 2 * n + 2 → (long ≡ 0) ⊎ (long ≡ 2 * leaves + 2) → n ≡ leaves
last n leaves long e (inl z) = omega (arith, e, z)
last n leaves long e (inr z) = omega (arith, e, z)

pub returns : goal.returns
returns c =
    let inv = c.loop-ink.invariant in
    let file = c.args.self.now.file.now in
    let w = c.next.new.self in
    let done = came_done file inv.0 c.loop-ink.ink-iterator w inv.1 c.in-None.ensures.steps in
    let r : Room file w.scanner.begun = room file (read w.scanner inv.0) done in
    let long = ap (λ (p : Read). length p.index) (sym (is_meant file (read w.scanner inv.0) done)) ∙ r.long in
    subst (Room file) (last w.scanner.begun c.loop-ink.leaves (length inv.0) long inv.2) r
