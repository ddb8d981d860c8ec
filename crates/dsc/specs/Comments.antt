-- The kinds of a line.
use Rattle.std.specs.Prelude.{◌≡◌, ℕ, ◌+◌, ◌<◌, Bool, cond, ◌&&◌, ◌||◌, List, [], length, take, drop, Some, None, codes, Option, ◌==◌, nat_le, nat_lt, slice_index}
use Rattle.std.specs.Str.{bytes_eq}
use Rattle.std.specs.Borrow.{Bor}
use Rattle.pages.specs.declared.maps.Size.{Size}
use Rattle.dsc.specs.declared.comments.Comment.{Comment}
use Rattle.dsc.specs.declared.comments.Heading.{Heading}
use Rattle.dsc.specs.declared.comments.Comment.TheVariants.{EndComments, Trailer, Pages, BoundingBox, Page, Other}
use Rattle.pages.specs.Limits.{max_pages, max_side}
use Rattle.dsc.specs.Values.{word_of, past_word, number_of, trim}
use Rattle.text.specs.Searches.{until}

-- what a line is: a text with no `%%` in front is of the kind `other`
pub data Kind : Type 0 where
  end_comments : Kind
  trailer : Kind
  pages : Option ℕ → Kind
  box : Option Size → Kind
  page : List ℕ → Option ℕ → Kind
  other : Kind

abbrev pub page_view : Option Heading → Kind
page_view None = page [] None
page_view (Some p) = page p.label.now (Some p.ordinal)

abbrev pub view : Comment → Kind
view EndComments = end_comments
view Trailer = trailer
view (Pages v) = pages v
view (BoundingBox v) = box v
view (Page p) = page_view p
view Other = other

abbrev pub heading_of : Comment → Option Heading
heading_of EndComments = None
heading_of Trailer = None
heading_of (Pages v) = None
heading_of (BoundingBox v) = None
heading_of (Page p) = p
heading_of Other = None

-- the values in range
abbrev pub at_most : ℕ → Option ℕ → Option ℕ
at_most m None = None
at_most m (Some n) = cond (nat_le n m) (Some n) None

-- a value after which no word comes
abbrev pub alone : {A : Type 0} → List ℕ → Option A → Option A
alone rest o = cond (length (word_of rest) == 0) o None

abbrev pub pages_of : List ℕ → Option ℕ
pages_of v = alone (past_word v) (at_most max_pages (number_of (word_of v)))

abbrev pub side : ℕ → Bool
side n = nat_le 1 n && nat_le n max_side

abbrev pub sided : Option ℕ → Option ℕ
sided None = None
sided (Some n) = cond (side n) (Some n) None

-- a box that begins at 0 0
abbrev pub sized : Option ℕ → Option ℕ → Option ℕ → Option ℕ → Option Size
sized (Some x) (Some y) (Some w) (Some h) = cond ((x == 0 && y == 0) && (side w && side h)) (Some (record { width = w; height = h })) None
sized None b c d = None
sized (Some x) None c d = None
sized (Some x) (Some y) None d = None
sized (Some x) (Some y) (Some w) None = None

abbrev pub box_of : List ℕ → Option Size
box_of v = alone (past_word (past_word (past_word (past_word v)))) (sized (number_of (word_of v)) (number_of (word_of (past_word v))) (number_of (word_of (past_word (past_word v)))) (number_of (word_of (past_word (past_word (past_word v))))))

-- a label's length at the front of a text with no blanks in front: from `(` to the next `)`, or a word with neither; 0 is none
abbrev pub paren_len : List ℕ → ℕ
paren_len t = cond (nat_lt (until 41 t) (length t)) (until 41 t + 1) 0

abbrev pub plain_len : List ℕ → ℕ
plain_len t = cond (nat_lt (until 40 (word_of t)) (length (word_of t)) || nat_lt (until 41 (word_of t)) (length (word_of t))) 0 (length (word_of t))

abbrev pub label_len : List ℕ → ℕ
label_len t = cond (slice_index t 0 == 40) (paren_len t) (plain_len t)

-- the first n bytes, and what follows them; 0 is none
abbrev pub Parted : List ℕ → ℕ → Option (Bor (List ℕ) × Bor (List ℕ)) → Type 0
Parted t n None = n ≡ 0
Parted t n (Some p) = (0 < n) × (p.0.now ≡ take n t) × (p.1.now ≡ drop n t)

abbrev pub label_of : List ℕ → List ℕ
label_of v = take (label_len (trim v)) (trim v)

abbrev pub past_label : List ℕ → List ℕ
past_label v = drop (label_len (trim v)) (trim v)

abbrev pub ordinal_at : List ℕ → Option ℕ
ordinal_at rest = cond (slice_index rest 0 == 32) (alone (past_word rest) (number_of (word_of rest))) None

abbrev pub ordinal_of : List ℕ → Option ℕ
ordinal_of v = cond (label_len (trim v) == 0) None (ordinal_at (past_label v))

abbrev pub paged : List ℕ → Option ℕ → Kind
paged l None = page [] None
paged l (Some n) = page l (Some n)

-- what follows a keyword
abbrev pub strip : List ℕ → List ℕ → Option (List ℕ)
strip k s = cond (bytes_eq (take (length k) s) k) (Some (drop (length k) s)) None

abbrev pub else_page : Option (List ℕ) → Kind
else_page None = other
else_page (Some v) = paged (label_of v) (ordinal_of v)

abbrev pub else_box : Option (List ℕ) → Kind → Kind
else_box None k = k
else_box (Some v) k = box (box_of v)

abbrev pub else_pages : Option (List ℕ) → Kind → Kind
else_pages None k = k
else_pages (Some v) k = pages (pages_of v)

abbrev pub keyword_of : List ℕ → Kind
keyword_of rest =
    cond (bytes_eq rest (codes "EndComments")) end_comments
    (cond (bytes_eq rest (codes "Trailer")) trailer
    (else_pages (strip (codes "Pages:") rest) (else_box (strip (codes "BoundingBox:") rest) (else_page (strip (codes "Page:") rest)))))

-- what follows the two bytes `%%`
abbrev pub marked_of : List ℕ → Option (List ℕ)
marked_of t = cond (slice_index t 0 == 37 && slice_index t 1 == 37) (Some (drop 2 t)) None

abbrev pub keyword_or : Option (List ℕ) → Kind
keyword_or None = other
keyword_or (Some rest) = keyword_of rest

abbrev pub kind : List ℕ → Kind
kind t = keyword_or (marked_of t)
