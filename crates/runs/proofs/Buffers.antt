-- Texts in the front of a buffer.
use Rattle.std.proofs.Common.{◌≡◌, ℕ, ◌+◌, ◌-◌, ◌≤◌, List, [], ◌∷◌, ◌++◌, length, take, drop, sym, ap, ◌∙◌, append_assoc, arith, length-append, length-drop, length-take}
use Rattle.std.specs.List.{slice_range}
use Rattle.std.proofs.lemmas.List.{take-append-drop, take-append-le, take-take, take_at, drop_at, length-take-le, drop-append-le}
use Rattle.pages.specs.Splice.{splice}
use Rattle.text.specs.Splicing.{splice_none}

-- a write into a front of the buffer is one into the buffer
splice_within : {X : Type 0} (b : List X) (e at : ℕ) (xs : List X) → at + length xs ≤ e → e ≤ length b → splice (take e b) at xs ++ drop e b ≡ splice b at xs
unfolding splice
splice_within b e at xs h k =
    let n : at + length xs ≤ length (take e b) = simp length-take (omega arith) in
    append_assoc (take at (take e b)) (xs ++ drop (at + length xs) (take e b)) (drop e b)
    ∙ ap (λ z. z ++ ((xs ++ drop (at + length xs) (take e b)) ++ drop e b)) (take-take at e b (omega arith))
    ∙ ap (λ z. take at b ++ z) (append_assoc xs (drop (at + length xs) (take e b)) (drop e b)
    ∙ ap (λ z. xs ++ z) (sym (drop-append-le (at + length xs) (take e b) (drop e b) n) ∙ ap (drop (at + length xs)) (take-append-drop e b)))

-- a write that makes a list no longer is one of nothing, or lies in it
splice_fits : {X : Type 0} (b : List X) (at : ℕ) (x : X) (xs : List X) → length (splice b at (x ∷ xs)) ≡ length b → at + length (x ∷ xs) ≤ length b
unfolding splice
splice_fits b at x xs h = omega (arith, simp (length-append, length-take, length-drop) at h)

-- so the front need not be known to have room, if its length stays
pub splice_front : {X : Type 0} (b : List X) (e at : ℕ) (xs : List X) → e ≤ length b → length (splice (take e b) at xs) ≡ length (take e b) → splice (take e b) at xs ++ drop e b ≡ splice b at xs
splice_front b e at [] k l = ap (λ z. z ++ drop e b) (splice_none (take e b) at) ∙ take-append-drop e b ∙ sym (splice_none b at)
splice_front b e at (x ∷ xs) k l = let f = splice_fits (take e b) at x xs l in splice_within b e at (x ∷ xs) (omega (arith, length-take-le e b k)) k

-- a part of the front is that part of the buffer
pub range_front : {X : Type 0} (f d : List X) (i j : ℕ) → i ≤ j → j ≤ length f → slice_range (f ++ d) i j ≡ slice_range f i j
range_front f d i j h k =
    ap (take (j - i)) (drop-append-le i f d (omega arith)) ∙ take-append-le (j - i) (drop i f) d (simp length-drop (omega arith))

-- what was written is what stands there
pub range_splice : (b : List ℕ) (at : ℕ) (xs : List ℕ) (end : ℕ) → at ≤ length b → end ≡ at + length xs → slice_range (splice b at xs) at end ≡ xs
unfolding splice
range_splice b at xs end h e =
    ap (take (end - at)) (drop_at (take at b) (xs ++ drop (at + length xs) b) at (length-take-le at b h))
    ∙ take_at xs (drop (at + length xs) b) (end - at) (omega arith)
