-- A keyword that is stripped.
use Rattle.std.proofs.Common.{◌≡◌, ℕ, ◌+◌, true, false, List, length, take, drop, Some, None, Option, sym, ap, ◌∙◌, Bor, MatchOption}
use Rattle.std.specs.Option.{option_map}
use Rattle.std.specs.Str.{bytes_eq}
use Rattle.std.proofs.lemmas.Bool.{cond-true, cond-false}
use Rattle.dsc.specs.Comments.{strip}

pub strip_from : (s k : List ℕ) (r : Option (Bor (List ℕ))) → MatchOption r (bytes_eq (take (length k) s) k ≡ false) (λ x. (bytes_eq (take (length k) s) k ≡ true) × (x.now ≡ drop (length k) s) × (length x.now + length k ≡ length s)) → option_map (λ x. x.now) r ≡ strip k s
strip_from s k None h = sym (cond-false _ _ _ h)
strip_from s k (Some x) h = ap (λ l. Some l) h.1 ∙ sym (cond-true _ _ _ h.0)
