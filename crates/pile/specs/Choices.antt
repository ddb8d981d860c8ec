-- A rule whose kind follows from its orders.
use Rattle.std.specs.Prelude.{◌≡◌, ℕ, List, [], take, Option}
use Rattle.layers.specs.Layering.{Parts}
use Rattle.layers.specs.Padding.{PadTaken, pad_objects, pad_shows}
use Rattle.layers.specs.Reducing.{ReduceTaken, reduce_objects, reduce_shows}
use Rattle.layers.specs.Selecting.{SelectStarts, SelectTaken, select_objects, select_shows}
use Rattle.layers.specs.Turning.{TurnTaken, turn_objects, turn_shows}
use Rattle.layers.specs.declared.extent.Extent.{Extent}
use Rattle.layers.specs.declared.pad.Blanks.{Blanks}
use Rattle.layers.specs.declared.parts.Objection.{Objection}
use Rattle.layers.specs.declared.ranges.Range.{Range}
use Rattle.layers.specs.declared.reduce.Ratio.{Ratio}
use Rattle.layers.specs.declared.select.Ranges.{Ranges}
use Rattle.layers.specs.declared.turn.Quarters.{Quarters}
use Rattle.pages.specs.Meaning.{Meaning}
use Rattle.signature.specs.Imposing.{Imposed, impose_objects, impose_shows}
use Rattle.signature.specs.declared.imposition.Imposition.{Imposition}
use Rattle.pile.specs.declared.choice.Choice.{Choice}
use Rattle.pile.specs.declared.choice.Choice.TheVariants.{Selecting, Padding, Turning, Reducing, Imposing}
use Rattle.pile.specs.declared.orders.Order.{Order}
use Rattle.pile.specs.declared.orders.Order.TheVariants.{Select, Pad, Turn, Reduce, Impose}

abbrev pub given_by : Ranges → List Range
given_by r = take r.count r.given

-- Each kind shows its pages as its own layer does.
abbrev pub choice_shows : Choice → Meaning → ℕ → Parts
choice_shows (Selecting r) = select_shows (given_by r)
choice_shows (Padding b) = pad_shows
choice_shows (Turning r) = turn_shows r.turn
choice_shows (Reducing r) = reduce_shows r.num r.den
choice_shows (Imposing r) = impose_shows r.signature

-- The ranges so far; a layer of another kind has none.
abbrev pub ranges_of : Choice → List Range
ranges_of (Selecting r) = given_by r
ranges_of (Padding b) = []
ranges_of (Turning r) = []
ranges_of (Reducing r) = []
ranges_of (Imposing r) = []

-- A layer starts as one that selects all pages.
abbrev pub ChoiceStarts : Meaning → Choice → Extent → Type 0
ChoiceStarts m c x = (r : Ranges) × (c ≡ Selecting r) × SelectStarts m (given_by r) x

-- What is objected to an order is what a layer of its kind objects.
abbrev pub choice_objects : Choice → Order → Meaning → Option Objection
choice_objects c (Select r) m = select_objects (ranges_of c) r m
choice_objects c (Pad k) m = pad_objects k m
choice_objects c (Turn q) m = turn_objects q
choice_objects c (Reduce r) m = reduce_objects r.num r.den m
choice_objects c (Impose s) m = impose_objects s.number s.sheets m

-- An order leads to a rule of its kind, and to the extent that it has there.
abbrev pub ChoiceTakes : Choice → Order → Meaning → Choice → Extent → Type 0
ChoiceTakes c (Select o) m d x = (r : Ranges) × (d ≡ Selecting r) × SelectTaken (ranges_of c) o m (given_by r) x
ChoiceTakes c (Pad k) m d x = (b : Blanks) × (d ≡ Padding b) × PadTaken k m x
ChoiceTakes c (Turn q) m d x = (r : Quarters) × (d ≡ Turning r) × TurnTaken q m r.turn x
ChoiceTakes c (Reduce o) m d x = (r : Ratio) × (d ≡ Reducing r) × ReduceTaken o.num o.den m r.num r.den x
ChoiceTakes c (Impose o) m d x = (r : Imposition) × (d ≡ Imposing r) × Imposed o.number o.sheets m r.signature x
