use Rattle.std.proofs.Common.{◌≡◌, ℕ, ◌+◌, ◌-◌, ◌≤◌, length, take, drop, sym, ◌∙◌, arith}
use Rattle.listing.specs.Meaning.{page_of}
use Rattle.listing.specs.Pages.{cut}
use Rattle.listing.proofs.Finding.{pair_there, span_finds}
use Rattle.listing.proofs.reader.Listing.page.Goals as goal

pub returns-in_err-offset : goal.returns-in_err-offset
returns-in_err-offset c =
    let s = c.args.self.now in
    let h : c.args.leaf ≤ length (cut 12 s.file.now) = omega (arith, s.counted) in
    let none = sym c.in_err-offset.ensures.ok_part ∙ (c.at.ensures _).1 (pair_there s.file.now s.index.now c.args.leaf s.indexed h) in
    absurd (let z : ◌≡◌ {A = ℕ} 0 1 = cc in omega arith)

pub slice_bounds-result-end : goal.slice_bounds-result-end
slice_bounds-result-end c =
    let s = c.args.self.now in
    let h : c.args.leaf ≤ length (cut 12 s.file.now) = omega (arith, s.counted) in
    let f = span_finds s.file.now s.index.now c.args.leaf c.in_ok-offset.field-0 s.indexed (omega arith) h ((c.at.ensures _).0 c.in_ok-offset.ensures.ok_part) in
    omega (arith, f.within)

pub returns : goal.returns
returns c =
    let s = c.args.self.now in
    let h : c.args.leaf ≤ length (cut 12 s.file.now) = omega (arith, s.counted) in
    let f = span_finds s.file.now s.index.now c.args.leaf c.in_ok-offset.field-0 s.indexed (omega arith) h ((c.at.ensures _).0 c.in_ok-offset.ensures.ok_part) in
    let o = c.in_ok-offset.field-0.offset in
    let n = c.in_ok-offset.field-0.length in
    let m : o + n - o ≡ n = omega arith in
    let z : o ≡ o - 0 = omega arith in
    let bytes : take (o + n - o) (drop o s.file.now) ≡ page_of s.file.now c.args.leaf = (λ i. take (m i) (drop (z i) s.file.now)) ∙ f.bytes in
    (omega arith, omega arith, bytes)
