-- Laws of `splice`.
use Rattle.std.proofs.Common.{◌≡◌, ℕ, ◌+◌, ◌<◌, ◌≤◌, List, [], ◌∷◌, ◌++◌, length, take, drop, set, sym, refl, ap, ◌∙◌, append_assoc, add-zero, add_assoc, add-one, arith, length-append, length-set, length-take}
use Rattle.std.proofs.lemmas.List.{take-append-drop, set_split, take_at, length-take-le, drop-append-le}
use Rattle.std.proofs.lemmas.Slice.{put_mid-paste}
use borrow.Rule.Slice.PartMut.{put_mid}
use Rattle.pages.specs.Splice.{splice}
use Rattle.text.specs.Writes.{Wrote}
use Rattle.text.specs.Splicing.{pasted}
pub use Rattle.text.specs.Splicing.{length-splice, splice_none, splice_splice}

module _ {X : Type 0} where
  pub splice_one : (b : List X) (at : ℕ) (x : X) → at < length b → set b at x ≡ splice b at (x ∷ [])
  unfolding splice
  splice_one b at x h = rw add-one (set_split b at x h)

  -- what is written one after the other is written as one
  pub and_then : {b b' b'' xs ys : List X} {at e e' : ℕ} → at ≤ length b → Wrote b at xs b' e → Wrote b' e ys b'' e' → Wrote b at (xs ++ ys) b'' e'
  and_then {b} {b'} {b''} {xs} {ys} {at} {e} {e'} h p q = record {
    holds = q.holds ∙ ap (λ z. splice z e ys) p.holds ∙ ap (λ z. splice (splice b at xs) z ys) p.ends ∙ splice_splice b at xs ys h;
    ends = q.ends ∙ ap (λ z. z + length ys) p.ends ∙ add_assoc at (length xs) (length ys) ∙ ap (λ z. at + z) (sym (length-append xs ys));
  }

  pub wrote_length : {b b' xs : List X} {at e : ℕ} → at + length xs ≤ length b → Wrote b at xs b' e → length b' ≡ length b
  wrote_length {b} {b'} {xs} {at} h p = ap length p.holds ∙ length-splice b at xs h

  -- a write to the part `s[at..at + k]`
  pub put_mid_lem : (b : List X) (at k : ℕ) (ys zs : List X) → ys ≡ zs → k ≡ length zs → put_mid at k b ys ≡ splice b at zs
  put_mid_lem b at k ys zs e h = put_mid-paste at k b ys zs (length zs) e (sym h) refl ∙ sym (pasted b at zs)

  pub wrote_as : {b b' xs : List X} {at e : ℕ} (ys : List X) → xs ≡ ys → Wrote b at xs b' e → Wrote b at ys b' e
  wrote_as {b} {b'} {xs} {at} {e} ys q p = record {
    holds = p.holds ∙ ap (splice b at) q;
    ends = p.ends ∙ ap (λ z. at + length z) q;
  }

  pub wrote_none : (b : List X) (at : ℕ) → Wrote b at [] b at
  wrote_none b at = record { holds = sym (splice_none b at); ends = sym (add-zero at) }

  pub wrote_one : (b : List X) (at : ℕ) (x : X) → at < length b → Wrote b at (x ∷ []) (set b at x) (at + 1)
  wrote_one b at x h = record { holds = splice_one b at x h; ends = refl }

  pub wrote_two : (b : List X) (at : ℕ) (x y : X) → at + 2 ≤ length b → Wrote b at (x ∷ y ∷ []) (set (set b at x) (at + 1) y) (at + 2)
  wrote_two b at x y h =
      let p = wrote_one b at x (omega arith) in
      let q = wrote_one (set b at x) (at + 1) y (omega (arith, length-set b at x)) in
      let r = and_then (omega arith) p q in
      record { holds = r.holds; ends = refl }

  pub take-splice : (b : List X) (at : ℕ) (xs : List X) (n : ℕ) → at + length xs ≡ n → at ≤ length b → take n (splice b at xs) ≡ take at b ++ xs
  unfolding splice
  take-splice b at xs n e h =
      ap (take n) (sym (append_assoc (take at b) xs (drop (at + length xs) b)))
      ∙ take_at (take at b ++ xs) (drop (at + length xs) b) n (length-append (take at b) xs ∙ ap (λ z. z + length xs) (length-take-le at b h) ∙ e)

  -- a write at the start of a front of the list
  pub splice_front : (b : List X) (e : ℕ) (xs : List X) → length xs ≤ e → e ≤ length b → splice (take e b) 0 xs ++ drop e b ≡ splice b 0 xs
  unfolding splice
  splice_front b e xs h k =
      let n : 0 + length xs ≤ length (take e b) = simp length-take (omega arith) in
      append_assoc xs (drop (0 + length xs) (take e b)) (drop e b)
      ∙ ap (λ z. xs ++ z) (sym (drop-append-le (0 + length xs) (take e b) (drop e b) n) ∙ ap (drop (0 + length xs)) (take-append-drop e b))
