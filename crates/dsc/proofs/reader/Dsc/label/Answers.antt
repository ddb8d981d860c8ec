use Rattle.std.proofs.Common.{◌≡◌, ℕ, ◌+◌, ◌-◌, List, take, drop, Some, None, sym, refl, ap, ◌∙◌, subst, arith}
use Rattle.std.specs.Option.{IsSome}
use Rattle.pages.specs.Inks.{text_of}
use Rattle.dsc.specs.declared.comments.Comment.{Comment}
use Rattle.dsc.specs.declared.comments.Heading.{Heading}
use Rattle.dsc.specs.declared.comments.Comment.TheVariants.{EndComments, Trailer, Pages, BoundingBox, Page, Other}
use Rattle.dsc.specs.Comments.{Kind, kind, page, view, heading_of, page_view}
use Rattle.dsc.specs.Readers.{offset_of}
use Rattle.dsc.specs.Loads.{line_offset, page_line}
use Rattle.dsc.proofs.Indexed.{held_line, Between}
use Rattle.dsc.proofs.Placed.{placed}
use Rattle.dsc.proofs.reader.Dsc.label.Goals as goal
use Rattle.dsc.proofs.reader.Dsc.label.Goals.{In_ok-ink}

start : (c : In_ok-ink) → line_offset c.args.self.now.index.now c.args.leaf ≡ c.in_ok-before.before.offset + c.in_ok-before.before.length
start c = omega (arith, c.in_ok-before.ensures.1, c.in_ok-before.ensures.2)

line : (c : In_ok-ink) → Between c.args.self.now.file.now (c.in_ok-before.before.offset + c.in_ok-before.before.length) c.in_ok-ink.ink.offset c.args.leaf
line c =
    let d = c.args.self.now in
    let from = c.in_ok-before.before.offset + c.in_ok-before.before.length in
    subst (λ b. Between d.file.now from b c.args.leaf) (sym c.in_ok-ink.ensures.1)
    (subst (λ a. Between d.file.now a (offset_of d.index.now c.args.leaf) c.args.leaf) (start c)
    (held_line d.file.now d.index.now c.args.leaf d.held (omega arith) (omega (arith, d.counted, c.if-leaf-self.false))))

pub slice_bounds-line-count : goal.slice_bounds-line-count
slice_bounds-line-count c = omega (arith, (line (goal.at.slice_bounds-line-count c).In_ok-ink).behind)

pub slice_bounds-line-start : goal.slice_bounds-line-start
slice_bounds-line-start c = omega (arith, (line (goal.at.slice_bounds-line-start c).In_ok-ink).behind)

pub slice_bounds-line-end : goal.slice_bounds-line-end
slice_bounds-line-end c = omega (arith, (line (goal.at.slice_bounds-line-end c).In_ok-ink).within)

same_leaf : (k : Kind) (a b : List ℕ) (n m : ℕ) → k ≡ page a (Some n) → k ≡ page b (Some m) → n ≡ m
same_leaf k a b n m e f = cc

-- a Page line that says what it should is read as such
has_heading : (r : Comment) (l : List ℕ) (n : ℕ) → view r ≡ page l (Some n) → IsSome (heading_of r)
has_heading EndComments l n e = absurd (let z : ◌≡◌ {A = ℕ} 0 1 = cc in omega arith)
has_heading Trailer l n e = absurd (let z : ◌≡◌ {A = ℕ} 0 1 = cc in omega arith)
has_heading (Pages v) l n e = absurd (let z : ◌≡◌ {A = ℕ} 0 1 = cc in omega arith)
has_heading (BoundingBox v) l n e = absurd (let z : ◌≡◌ {A = ℕ} 0 1 = cc in omega arith)
has_heading (Page None) l n e = absurd (let z : ◌≡◌ {A = ℕ} 0 1 = cc in omega arith)
has_heading (Page (Some p)) l n e = refl
has_heading Other l n e = absurd (let z : ◌≡◌ {A = ℕ} 0 1 = cc in omega arith)

is_page : (r : Comment) (p : Heading) → heading_of r ≡ Some p → view r ≡ page p.label.now (Some p.ordinal)
is_page EndComments p e = absurd (let z : ◌≡◌ {A = ℕ} 0 1 = cc in omega arith)
is_page Trailer p e = absurd (let z : ◌≡◌ {A = ℕ} 0 1 = cc in omega arith)
is_page (Pages v) p e = absurd (let z : ◌≡◌ {A = ℕ} 0 1 = cc in omega arith)
is_page (BoundingBox v) p e = absurd (let z : ◌≡◌ {A = ℕ} 0 1 = cc in omega arith)
is_page (Page q) p e = ap page_view e
is_page Other p e = absurd (let z : ◌≡◌ {A = ℕ} 0 1 = cc in omega arith)

pub unwrap-requires : goal.unwrap-requires
unwrap-requires c =
    let known = line (goal.at.unwrap-requires c).In_ok-ink in
    subst IsSome (sym c.heading.ensures) (has_heading c.kind_of.result known.label c.args.leaf (c.kind_of.ensures ∙ ap kind c.text.ensures ∙ known.means))

pub returns : goal.returns
returns c =
    let d = (goal.at.returns c).In_ok-ink in
    let known = line d in
    let file = c.args.self.now.file.now in
    let index = c.args.self.now.index.now in
    let leaf = c.args.leaf in
    let heading = c.unwrap.result in
    let from = c.in_ok-before.before.offset + c.in_ok-before.before.length in
    let ink = c.in_ok-ink.ink in
    let bytes = take (ink.offset - from) (drop from file) in
    let cut : page_line file index leaf ≡ bytes = ap (λ a. take (offset_of index leaf - a) (drop a file)) (start d) ∙ ap (λ b. take (b - from) (drop from file)) (sym c.in_ok-ink.ensures.1) in
    let read : kind (text_of bytes) ≡ page heading.label.now (Some heading.ordinal) = ap kind (sym c.text.ensures) ∙ sym c.kind_of.ensures ∙ is_page c.kind_of.result heading (sym c.heading.ensures ∙ c.unwrap.ensures) in
    let number : heading.ordinal ≡ leaf = same_leaf (kind (text_of bytes)) heading.label.now known.label heading.ordinal leaf read known.means in
    let told : kind (text_of (page_line file index leaf)) ≡ page heading.label.now (Some leaf) = ap (λ l. kind (text_of l)) cut ∙ read ∙ ap (λ n. page heading.label.now (Some n)) number in
    (omega arith, omega (arith, c.if-leaf-self.false), told, placed file (line_offset index leaf) (offset_of index leaf - line_offset index leaf) heading.label.now leaf told)
