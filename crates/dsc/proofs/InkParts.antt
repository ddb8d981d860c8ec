-- A leaf's ink as a part of the file, and what length and pour answer of it.
use Rattle.std.proofs.Common.{◌≡◌, ℕ, ◌≤◌, List, length, Ok, sym, ap, ◌∙◌, arith}
use Rattle.std.proofs.lemmas.Bool.{cond-true, le-leb}
use Rattle.pages.specs.Meaning.{end_at, written}
use Rattle.dsc.specs.Scans.{meant}
use Rattle.dsc.specs.Readers.{meaning_of}
use Rattle.dsc.specs.Loads.{InkOf}
use Rattle.dsc.proofs.Indexed.{lawful}

pub ink_found : (file : List ℕ) (leaf : ℕ) (ink : List ℕ) → leaf ≤ (meant file).leaves → ink ≡ (meaning_of file).ink leaf → InkOf (meaning_of file) leaf ink
ink_found file leaf ink l e =
    let there = le-leb leaf (meant file).leaves l in
    record {
      is = e;
      small = omega (arith, ap length e, (lawful file).inked leaf l);
      long = cond-true _ _ _ there ∙ sym (ap (λ i. Ok (length i)) e);
      end = λ n at. ap (λ i. end_at i n at) e ∙ sym (cond-true _ _ _ there);
      bytes = λ b at. ap (λ i. written i b at) e ∙ sym (cond-true _ _ _ there);
    }
