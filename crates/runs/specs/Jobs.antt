-- What a job prints, as an edition.
use Rattle.std.specs.Prelude.{cond, None, nat_le}
use Rattle.std.specs.Option.{option_map}
use Rattle.sides.specs.Texts.{ending_text, opening_of}
use Rattle.job.specs.Books as job
use Rattle.job.specs.Calls.{record_under, shown_by}
use Rattle.runs.specs.Editions.{Edition}

abbrev pub edition : job.Book → Edition
edition b = record {
  sides = job.sides b;
  text = job.side_printed b;
  per = job.per_side b;
  records = job.side_records b;
  cell = λ s i j. option_map shown_by (cond (nat_le s (job.sides b)) (record_under b.signature s i j) None);
  opening = opening_of (job.sheets b);
  ending = ending_text;
  layer = job.sheets b;
}
