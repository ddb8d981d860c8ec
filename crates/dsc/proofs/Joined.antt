-- A reading goes on from where its first lines left it.
use Rattle.std.proofs.Common.{◌≡◌, ℕ, ◌+◌, eqb, List, [], ◌∷◌, ◌++◌, length, Result, sym, refl, ap, ◌∙◌}
use Rattle.std.proofs.lemmas.Bool.{cond-true, eq-eqb}
use Rattle.std.proofs.lemmas.List.{append-nil}
use Rattle.pages.specs.declared.faults.Fault.{Fault}
use Rattle.pages.specs.Pieces.{Piece, fresh, grown, after, done}
use Rattle.pages.specs.Inks.{Context, plain, lines, lines_of, last_byte}
use Rattle.pages.proofs.Cuts.{after-append}
use Rattle.pages.proofs.Lines.{last_push}
use Rattle.dsc.specs.declared.scanner.Scanner.{Scanner}
use Rattle.dsc.specs.Scans.{Read, Step, goes, ends, stops, step, follow, kind_of, run, start}
use Rattle.dsc.specs.Joins.{After, go_on, after_lines, resume, ReadingsJoin}
use Rattle.dsc.proofs.Wholes.{behind}

one_more : (t : Step) (xs : List ℕ) (ps : List (Piece Context)) (k : Scanner → List ℕ → Result Read Fault) (j : Scanner → List ℕ → After) → ((s : Scanner) (ys : List ℕ) → k s ys ≡ resume (j s ys) ps) → follow t xs k ≡ resume (go_on t xs j) ps
one_more (goes s ys) xs ps k j h = h s (xs ++ ys)
one_more (ends s ys) xs ps k j h = refl
one_more (stops f) xs ps k j h = refl

run-append : (ps qs : List (Piece Context)) (s : Scanner) (at : ℕ) (xs : List ℕ) → run s at xs (ps ++ qs) ≡ resume (after_lines s at xs ps) qs
run-append [] qs s at xs = refl
run-append (p ∷ ps) qs s at xs = one_more (step s at (at + length p.bytes) (kind_of p)) xs qs (λ s' ys. run s' (at + length p.bytes) ys (ps ++ qs)) (λ s' ys. after_lines s' (at + length p.bytes) ys ps) (λ s' ys. run-append ps qs s' (at + length p.bytes) ys)

-- behind a line feed a line begins
pub fed_closed : (bs : List ℕ) → after lines (fresh plain) (bs ++ 10 ∷ []) ≡ fresh plain
fed_closed bs =
    let p = after lines (fresh plain) bs in
    after-append lines (fresh plain) bs (10 ∷ []) ∙ cond-true (eqb (last_byte (p.bytes ++ 10 ∷ [])) 10) (fresh plain) (grown p 10) (eq-eqb _ _ (last_push p.bytes 10))

-- whole lines are all completed
pub closed_lines : (bs : List ℕ) → after lines (fresh plain) bs ≡ fresh plain → lines_of bs ≡ done lines (fresh plain) bs
closed_lines bs c = ap lines_of (sym (append-nil bs)) ∙ behind bs [] c ∙ append-nil (done lines (fresh plain) bs)

joins : (s : Scanner) (at : ℕ) (xs bs cs : List ℕ) → run s at xs (lines_of ((bs ++ 10 ∷ []) ++ cs)) ≡ resume (after_lines s at xs (lines_of (bs ++ 10 ∷ []))) (lines_of cs)
joins s at xs bs cs =
    let front = bs ++ 10 ∷ [] in
    ap (run s at xs) (behind front cs (fed_closed bs) ∙ ap (λ (ps : List (Piece Context)). ps ++ lines_of cs) (sym (closed_lines front (fed_closed bs))))
    ∙ run-append (lines_of front) (lines_of cs) s at xs

pub readings_join : ReadingsJoin
readings_join = record {
  joins = joins;
  alike = λ f g cs e. joins start 0 [] f cs ∙ ap (λ (a : After). resume a (lines_of cs)) e ∙ sym (joins start 0 [] g cs);
}
