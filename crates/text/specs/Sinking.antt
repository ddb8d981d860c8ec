-- Each kind of sink keeps the laws of sinks.
use Rattle.std.proofs.Common.{◌≡◌, ℕ, Bool, true, false, List, [], ◌++◌, length, sym, refl, ap, ◌∙◌, append_assoc, add-zero, arith, length-append}
use Rattle.pages.specs.Splice.{splice}
use Rattle.text.specs.Splicing.{length-splice, splice_none, splice_splice}
use Rattle.text.specs.Sinks.{Counted, Filled, Whole}
use Rattle.text.specs.declared.sinks.Counter.{Counter}
use Rattle.text.specs.declared.sinks.Lent.{Lent}

pub counted_nothing : (s : Counter) → Counted s [] true s
counted_nothing s = sym (add-zero s.count)

pub counted_both : (s t u : Counter) (xs ys : List ℕ) (fit : Bool) → Counted s xs true t → Counted t ys fit u → Counted s (xs ++ ys) fit u
counted_both s t u xs ys true p q = omega (arith, length-append xs ys)
counted_both s t u xs ys false p q = (omega (arith, length-append xs ys), omega arith)

pub counted_short : (s t : Counter) (xs ys : List ℕ) → Counted s xs false t → Counted s (xs ++ ys) false t
counted_short s t xs ys p = (omega (arith, length-append xs ys), p.1)

pub filled_nothing : (s : Lent) → Filled s [] true s
filled_nothing s = record {
  fits = omega (arith, s.within);
  holds = sym (splice_none s.buffer.now s.at);
  ends = sym (add-zero s.at);
  same = refl;
}

then : (s t : Lent) (xs ys : List ℕ) → Whole s xs t → splice t.buffer.now t.at ys ≡ splice s.buffer.now s.at (xs ++ ys)
then s t xs ys p = ap (λ b. splice b t.at ys) p.holds ∙ ap (λ n. splice (splice s.buffer.now s.at xs) n ys) p.ends ∙ splice_splice s.buffer.now s.at xs ys s.within

kept : (s t : Lent) (xs : List ℕ) → Whole s xs t → length t.buffer.now ≡ length s.buffer.now
kept s t xs p = ap length p.holds ∙ length-splice s.buffer.now s.at xs p.fits

pub filled_both : (s t u : Lent) (xs ys : List ℕ) (fit : Bool) → Filled s xs true t → Filled t ys fit u → Filled s (xs ++ ys) fit u
filled_both s t u xs ys true p q = record {
  fits = omega (arith, q.fits, p.ends, kept s t xs p, length-append xs ys);
  holds = q.holds ∙ then s t xs ys p;
  ends = omega (arith, q.ends, p.ends, length-append xs ys);
  same = q.same ∙ p.same;
}
filled_both s t u xs ys false p q = record {
  short = omega (arith, q.short, p.ends, kept s t xs p, length-append xs ys);
  front = xs ++ q.front;
  rest = q.rest;
  parts = ap (λ z. xs ++ z) q.parts ∙ sym (append_assoc xs q.front q.rest);
  holds = q.holds ∙ then s t xs q.front p;
  ends = omega (arith, q.ends, p.ends, length-append xs q.front);
  same = q.same ∙ p.same;
}

pub filled_short : (s t : Lent) (xs ys : List ℕ) → Filled s xs false t → Filled s (xs ++ ys) false t
filled_short s t xs ys p = record {
  short = omega (arith, p.short, length-append xs ys);
  front = p.front;
  rest = p.rest ++ ys;
  parts = ap (λ z. z ++ ys) p.parts ∙ append_assoc p.front p.rest ys;
  holds = p.holds;
  ends = p.ends;
  same = p.same;
}
