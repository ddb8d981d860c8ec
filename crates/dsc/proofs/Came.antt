-- How far a reading has come.
use Rattle.std.proofs.Common.{◌≡◌, ℕ, ◌+◌, ◌*◌, List, ◌++◌, length, Some, None, Ok, Err, Option, sym, refl, ◌∙◌, arith, length-append, Bor}
use Rattle.pages.specs.declared.faults.Fault.{Fault}
use Rattle.dsc.specs.declared.reading.Reading.{Reading}
use Rattle.dsc.specs.declared.scanner.LeafInk.{LeafInk}
use Rattle.dsc.specs.Scans.{scanned, read}
use Rattle.dsc.specs.Readings.{rest, numbers, next_of, Next, Gives}

-- with the numbers xs so far; the next ink is that of the leaf
pub record Came (file : List ℕ) (w : Reading) (xs : List ℕ) : Type 0 where
  pub same : rest w xs ≡ scanned file
  pub leaf : ℕ
  pub next : Next w leaf
  pub long : length xs ≡ 2 * leaf

leaf_now : (u : Option (Bor (List ℕ))) (b n : ℕ) → (u ≡ None → ⊥) → next_of u b n → b ≡ n
leaf_now None b n some h = absurd (some refl)
leaf_now (Some bs) b n some h = h

module _ (file xs : List ℕ) (v w : Reading) (came : Came file v xs) where
  pub came_leaf : (i : LeafInk) → Gives v (Some (Ok i)) w → length xs ≡ 2 * i.leaf
  came_leaf i g = omega (arith, came.long, g.0.1, leaf_now v.unread v.scanner.begun came.leaf g.1 came.next)

  pub came_on : (i : LeafInk) → Gives v (Some (Ok i)) w → Came file w (xs ++ numbers i)
  came_on i g = record {
    same = sym (g.0.0 xs) ∙ came.same;
    leaf = v.scanner.begun + 1;
    next = g.0.2;
    long = length-append xs (numbers i) ∙ omega (arith, came.long, leaf_now v.unread v.scanner.begun came.leaf g.1 came.next);
  }

  pub came_err : (f : Fault) → Gives v (Some (Err f)) w → scanned file ≡ Err f
  came_err f g = sym came.same ∙ g.0 xs

  pub came_done : Gives v None w → scanned file ≡ Ok (read w.scanner xs)
  came_done g = sym came.same ∙ g xs
