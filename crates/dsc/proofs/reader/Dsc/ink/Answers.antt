use Rattle.std.proofs.Common.{◌≡◌, ◌+◌, ◌-◌, ◌≤◌, take, drop, ap, ◌∙◌, arith}
use Rattle.dsc.specs.Scans.{meant}
use Rattle.dsc.specs.Readers.{length_of}
use Rattle.dsc.proofs.Indexed.{held_ink, held_inside}
use Rattle.dsc.proofs.InkParts.{ink_found}
use Rattle.dsc.proofs.reader.Dsc.ink.Goals as goal
use Rattle.dsc.proofs.reader.Dsc.ink.Goals.{In_ok-span}

there : (c : In_ok-span) → c.args.leaf ≤ (meant c.args.self.now.file.now).leaves
there c = omega (arith, c.args.self.now.counted, c.in_ok-span.ensures.0)

pub slice_bounds-result-end : goal.slice_bounds-result-end
slice_bounds-result-end c = omega (arith, held_inside c.args.self.now.file.now c.args.self.now.index.now c.args.leaf c.args.self.now.held (there (goal.at.slice_bounds-result-end c).In_ok-span), c.in_ok-span.ensures.1, c.in_ok-span.ensures.2)

pub returns : goal.returns
returns c =
    let file = c.args.self.now.file.now in
    let index = c.args.self.now.index.now in
    let leaf = c.args.leaf in
    let span = c.in_ok-span.span in
    let n : span.offset + span.length - span.offset ≡ span.length = omega arith in
    let here = there (goal.at.returns c).In_ok-span in
    ink_found file leaf _ here (ap (λ m. take m (drop span.offset file)) n ∙ ap (λ m. take m (drop span.offset file)) c.in_ok-span.ensures.2 ∙ ap (λ o. take (length_of index leaf) (drop o file)) c.in_ok-span.ensures.1 ∙ held_ink file index leaf c.args.self.now.held here)
