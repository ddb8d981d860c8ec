-- The writing of records one after another.
use Rattle.std.proofs.Common.{◌≡◌, ℕ, ◌+◌, ◌<◌, Bool, true, false, cond, List, [], ◌∷◌, ◌++◌, map, length, get_or, drop, set, suc, Some, None, sym, ap, ◌∙◌, add-one, append_assoc, append-nil, arith}
use Rattle.std.specs.List.{range_with_len}
use Rattle.std.proofs.Math.ListN.{drop_of_length-le}
use Rattle.std.proofs.Math.Seq.{drop-cons, set-append_seam}
use Rattle.std.proofs.lemmas.List.FromFn.{length-map-range_with_len, map-range_with_len_more}
use Rattle.plan.specs.declared.record.Record.{Record}

-- one element more of a list is set to a function of its index
pub set_more : {X : Type 0} (f : ℕ → X) (before now : List X) (i : ℕ) (x : X) → i < length before → x ≡ f i
    → now ≡ map f (range_with_len 0 i) ++ drop i before → set now i x ≡ map f (range_with_len 0 (i + 1)) ++ drop (i + 1) before
set_more f before now i x h e w =
    let xs = map f (range_with_len 0 i) in
    let n : length xs ≡ i = length-map-range_with_len f 0 i in
    ap (λ z. set z i x) (w ∙ ap (λ z. xs ++ z) (drop-cons before i x h))
    ∙ ap (λ k. set (xs ++ get_or before i x ∷ drop (suc i) before) k x) (sym n)
    ∙ set-append_seam xs (get_or before i x) (drop (suc i) before) x
    ∙ sym (append_assoc xs (x ∷ []) (drop (suc i) before))
    ∙ (λ t. (xs ++ e t ∷ []) ++ drop (sym (add-one i) t) before)
    ∙ ap (λ z. z ++ drop (i + 1) before) (sym (map-range_with_len_more f 0 i i (omega arith)))

-- all of its elements were
pub all_set : {X : Type 0} (f : ℕ → X) (before now : List X) (i n : ℕ) → length before ≡ n → i ≡ n
    → now ≡ map f (range_with_len 0 i) ++ drop i before → now ≡ map f (range_with_len 0 n)
all_set f before now i n l e w =
    w ∙ ap (λ z. map f (range_with_len 0 i) ++ z) (drop_of_length-le before (omega arith)) ∙ append-nil (map f (range_with_len 0 i))
    ∙ ap (λ k. map f (range_with_len 0 k)) e

-- a record that was answered is the one at the index
pub answered : (b : Bool) (x y : Record) → Some x ≡ cond b (Some y) None → x ≡ y
answered true x y e = cc
answered false x y e = let z : ◌≡◌ {A = ℕ} 0 1 = cc in absurd (omega arith)
