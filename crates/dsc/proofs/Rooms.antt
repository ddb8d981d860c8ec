-- A file that was opened, and one that was read to its end.
use Rattle.std.proofs.Common.{◌≡◌, ℕ, ◌+◌, ◌*◌, ◌≤◌, [], List, length, take, Ok, Result, sym, ap, ◌∙◌, arith}
use Rattle.std.proofs.lemmas.Bool.{cond-true, cond-false, le-ltb, lt-leb}
use Rattle.std.proofs.lemmas.Slice.Eq.{bytes_eq-Decides}
use Rattle.pages.specs.declared.faults.Fault.{Fault}
use Rattle.pages.specs.Inks.{lines_of}
use Rattle.dsc.specs.Bounds.{longest, mark}
use Rattle.dsc.specs.Scans.{Read, scanned, meant, meant_by, run, start}
use Rattle.dsc.specs.ScanAnswers.{Room, answered, indexed}
use Rattle.dsc.proofs.Indexed.{known}

pub opened : (file : List ℕ) → length file ≤ longest → take 14 file ≡ mark → scanned file ≡ run start 0 [] (lines_of file)
opened file short marked = cond-false _ _ _ (le-ltb longest (length file) short) ∙ cond-true _ _ _ ((bytes_eq-Decides mark (take 14 file)).1 (sym marked))

pub is_meant : (file : List ℕ) (o : Read) → scanned file ≡ Ok o → meant file ≡ o
is_meant file o e = ap meant_by e

pub room : (file : List ℕ) (o : Read) → scanned file ≡ Ok o → Room file o.leaves
room file o e =
    let is = is_meant file o e in
    let long : length o.index ≡ 2 * o.leaves + 2 = omega (arith, (known file).long, ap (λ (p : Read). length p.index) is, ap (λ (p : Read). p.leaves) is) in
    record {
      accepted = e ∙ ap (λ (p : Read). Ok p) (sym is);
      leaves = ap (λ (p : Read). p.leaves) is;
      long = ap (λ (p : Read). length p.index) is ∙ long;
      short = λ n l. ap (λ (r : Result Read Fault). answered r n) e ∙ cond-false _ _ _ (lt-leb (length o.index) n (omega arith));
      kept = λ old l. ap (λ (r : Result Read Fault). indexed r old) e ∙ cond-false _ _ _ (lt-leb (length o.index) (length old) (omega arith));
    }
