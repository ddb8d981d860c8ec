-- What each call does, from what it promises.
use Rattle.std.proofs.Common.{◌≡◌, ℕ, ◌+◌, ◌-◌, ◌*◌, ◌<◌, ◌≤◌, min, Bool, true, false, cond, leb, List, [], ◌++◌, length, take, drop, None, Ok, Err, Result, sym, refl, ap, ◌∙◌, subst, arith}
use Rattle.std.specs.Prelude.{MatchResult, slice_range}
use Rattle.std.proofs.lemmas.List.{length-take-le}
use Rattle.std.proofs.lemmas.Bool.{le-leb, leb-true, cond-true, cond-false}
use Rattle.std.proofs.lemmas.Bool.Decides.{nat_tests}
use Rattle.pages.specs.Meaning.{Meaning, fault, end_at, written, pour_at, poured}
use Rattle.pages.specs.Splice.{splice}
use Rattle.pages.specs.declared.faults.Fault.{Fault}
use Rattle.pages.specs.declared.faults.Refusal.TheVariants.{ShortBuffer, NoSuch}
use Rattle.text.specs.Splicing.{splice_none}
use Rattle.plan.specs.declared.record.Record.{Record}
use Rattle.job.specs.Calls.{pullable, pulled}
use Rattle.runs.specs.Editions.{Edition, Prints, Writes, depth_of, print_refusal, pull_back, state}
use Rattle.runs.specs.Replies.{reply, reply_by, reply_to, print_reply, pull_reply, text_reply, pour_reply, after, is_print, room_of, start_of}
use Rattle.runs.specs.Steps.{silently, Does, Said, Told}
use Rattle.runs.specs.declared.calls.Answer.{Answer}
use Rattle.runs.specs.declared.calls.Answer.TheVariants.{Printed, PulledBack, Opened, Ended, Poured, Refused}
use Rattle.runs.specs.declared.calls.Call.{Call}
use Rattle.runs.specs.declared.calls.Call.TheVariants.{Print, PullBack, Opening, Ending, HowFar, Cell, Size, Leaves, Pages, Depth, Laid, Place, Length, Pour}
use Rattle.runs.specs.declared.done.Done.{Done}
use Rattle.runs.proofs.Buffers.{range_front, range_splice, splice_front}

-- a print that is not refused has its room
pub record Room (e : Edition) (room list n : ℕ) : Type 0 where
  pub more : n < e.sides
  pub bytes : length (e.text (n + 1)) ≤ room
  pub lines : (n + 1) * e.per ≤ list

pub accepted : (e : Edition) (room list n : ℕ) → print_refusal e room list n ≡ None → Room e room list n
accepted e room list n h = record {
  more = grind (arith, nat_tests);
  bytes = grind (arith, nat_tests);
  lines = grind (arith, nat_tests);
}

-- ---- the front of the buffer, as many bytes as the call may use

reply_within : (e : Edition) (room list n end : ℕ) (c : Call) → end ≡ min (room_of c) room → reply_to e end list n c ≡ reply_to e room list n c
reply_within e room list n end (Print most) h = let i : min most end ≡ min most room = omega arith in ap (λ z. print_reply (e.text (n + 1)) (print_refusal e z list n)) i
reply_within e room list n end (PullBack s) h = refl
reply_within e room list n end (Opening most) h = let i : min most end ≡ min most room = omega arith in ap (λ z. text_reply Opened e.opening (depth_of e) z) i
reply_within e room list n end (Ending most) h = let i : min most end ≡ min most room = omega arith in ap (λ z. text_reply Ended e.ending (depth_of e) z) i
reply_within e room list n end HowFar h = refl
reply_within e room list n end (Cell s i j) h = refl
reply_within e room list n end Size h = refl
reply_within e room list n end Leaves h = refl
reply_within e room list n end Pages h = refl
reply_within e room list n end Depth h = refl
reply_within e room list n end (Laid p) h = refl
reply_within e room list n end (Place p s) h = refl
reply_within e room list n end (Length l) h = refl
reply_within e room list n end (Pour l at most) h = let i : min most end ≡ min most room = omega arith in ap (λ z. pour_reply (e.layer.ink l) (pour_at e.layer l z at)) i

-- what a call did in the front it did in the buffer
widened : {e : Edition} {c : Call} (n n' : ℕ) (b f : List ℕ) (p p' : List Record) (r : Done) (end : ℕ) → end ≡ min (room_of c) (length b) → length f ≡ length (take end b)
    → Does e c (state n (take end b) p) (state n' f p') r → Does e c (state n b p) (state n' (f ++ drop end b) p') r
widened {e} {c} n n' b f p p' r end q l d =
    let i = r.text.start in
    let j = r.text.end in
    let front : length (take end b) ≡ end = length-take-le end b (omega arith) in
    let inside = d.within.1 in
    let same : slice_range (f ++ drop end b) i j ≡ slice_range f i j = range_front f (drop end b) i j d.within.0 (omega arith) in
    let did = d.performed in
    record {
      within = (d.within.0, omega arith);
      performed = record {
        replied =
            ap (λ t. reply r.answer t) same ∙ did.replied ∙ ap (λ z. reply_to e z (length p) n c) front ∙ reply_within e (length b) (length p) n end c q;
        counts = did.counts;
        writes =
            ap (λ z. z ++ drop end b) did.writes
            ∙ splice_front b end (start_of c) (slice_range f i j) (omega arith) (ap length (sym did.writes) ∙ l)
            ∙ ap (splice b (start_of c)) (sym same);
        plans = did.plans;
      };
    }

-- by its name, where the front is no longer than the call allows
pub did : {e : Edition} {c c' : Call} → c ≡ c' → {n n' : ℕ} (b f : List ℕ) {p p' : List Record} {r : Done} (end : ℕ) → end ≡ min (room_of c) (length b) → length f ≡ length (take end b)
    → (length (take end b) ≤ room_of c' → Does e c' (state n (take end b) p) (state n' f p') r) → Does e c (state n b p) (state n' (f ++ drop end b) p') r
did {e} {c} {c'} same {n} {n'} b f {p} {p'} {r} end q l d =
    let q' : end ≡ min (room_of c') (length b) = q ∙ ap (λ z. min (room_of z) (length b)) same in
    let front : length (take end b) ≡ end = length-take-le end b (omega arith) in
    subst (λ (z : Call). Does e z (state n b p) (state n' (f ++ drop end b) p') r) (sym same) (widened n n' b f p p' r end q' l (d (omega arith)))

-- ---- an answer without a text

-- an answer that is neither a print nor a pull-back
pub record Quiet (a : Answer) : Type 0 where
  pub same : (n : ℕ) → after n a ≡ n
  pub unprinted : is_print a ≡ false

silent : {e : Edition} {c : Call} (n n' : ℕ) (b : List ℕ) (p : List Record) (a : Answer) (r : Done) → r ≡ silently a → reply a [] ≡ reply_to e (length b) (length p) n c
    → n' ≡ after n a → is_print a ≡ false → Does e c (state n b p) (state n' b p) r
silent {e} {c} n n' b p a r i h k u =
    subst (λ (z : Done). Does e c (state n b p) (state n' b p) z) (sym i) (record {
      within = (omega arith, omega arith);
      performed = record {
        replied = h;
        counts = k;
        writes = sym (splice_none b (start_of c));
        plans = sym (cond-false _ _ _ u);
      };
    })

pub asked : {e : Edition} {c : Call} (n : ℕ) (b : List ℕ) (p : List Record) (a : Answer) (r : Done) → r ≡ silently a → Quiet a → reply a [] ≡ reply_to e (length b) (length p) n c
    → Does e c (state n b p) (state n b p) r
asked n b p a r i q h = silent n n b p a r i h (sym (q.same n)) q.unprinted

quiet_refusal : (f : Fault) → Quiet (Refused f)
quiet_refusal f = record { same = λ n. refl; unprinted = refl }

pub asked_by : {e : Edition} {c : Call} {T : Type 0} (say : T → Answer) → ((v : T) → Quiet (say v)) → (n : ℕ) (b : List ℕ) (p : List Record) (v : Result T Fault) (r : Done)
    → Told (λ x a. a ≡ say x) v r → reply_by say v ≡ reply_to e (length b) (length p) n c → Does e c (state n b p) (state n b p) r
asked_by say q n b p (Ok x) r m h = asked n b p r.answer r m.1 (subst Quiet (sym m.0) (q x)) (ap (λ z. reply z []) m.0 ∙ h)
asked_by say q n b p (Err f) r m h = asked n b p (Refused f) r m (quiet_refusal f) h

pub pull_does : (e : Edition) (n n' s : ℕ) (b : List ℕ) (p : List Record) (v : Result (Unit {0}) Fault) (r : Done)
    → Told (λ x a. a ≡ PulledBack s) v r → v ≡ pull_back e n s → n' ≡ pulled n s → Does e (PullBack s) (state n b p) (state n' b p) r
pull_does e n n' s b p v r m h k =
    let x = pulls (pullable n s) v m h k in
    silent n n' b p r.answer r (quietly v m) (x.0 ∙ ap (pull_reply s) h) x.1 x.2
  where
    quietly : (v : Result (Unit {0}) Fault) → Told (λ x a. a ≡ PulledBack s) v r → r ≡ silently r.answer
    quietly (Ok x) m = m.1
    quietly (Err f) m = m ∙ sym (ap (λ (z : Done). silently z.answer) m)

    pulls : (t : Bool) (v : Result (Unit {0}) Fault) → Told (λ x a. a ≡ PulledBack s) v r → v ≡ cond t (Ok tt) (Err (fault NoSuch (depth_of e) s)) → n' ≡ cond t (s - 1) n
        → (reply r.answer [] ≡ pull_reply s v) × (n' ≡ after n r.answer) × (is_print r.answer ≡ false)
    pulls true (Ok x) m h k = (ap (λ z. reply z []) m.0, k ∙ ap (after n) (sym m.0), ap is_print m.0)
    pulls true (Err x) m h k = let z : ◌≡◌ {A = ℕ} 0 1 = cc in absurd (omega arith)
    pulls false (Ok x) m h k = let z : ◌≡◌ {A = ℕ} 0 1 = cc in absurd (omega arith)
    pulls false (Err x) m h k = let said : r.answer ≡ Refused x = ap (λ (z : Done). z.answer) m in (ap (λ z. reply z []) said, k ∙ ap (after n) (sym said), ap is_print said)

-- ---- an answer that speaks of a text

refused : {e : Edition} {c : Call} (n n' : ℕ) (b b' : List ℕ) (p p' : List Record) (f : Fault) (r : Done) → r ≡ silently (Refused f) → reply (Refused f) [] ≡ reply_to e (length b) (length p) n c
    → n' ≡ n → b' ≡ b → p' ≡ p → Does e c (state n b p) (state n' b' p') r
refused {e} {c} n n' b b' p p' f r i h k l m =
    subst (λ (z : List ℕ). Does e c (state n b p) (state n' z p') r) (sym l)
    (subst (λ (z : List Record). Does e c (state n b p) (state n' b z) r) (sym m) (silent n n' b p (Refused f) r i h k refl))

-- the text t was written from place `at` on
written_does : {e : Edition} {c : Call} (n n' : ℕ) (b b' : List ℕ) (p p' : List Record) (at : ℕ) (t : List ℕ) (end : ℕ) (a : Answer) (r : Done)
    → (r.answer ≡ a) × (r.text.start ≡ at) × (r.text.end ≡ end) → at + length t ≤ length b → end ≡ at + length t → b' ≡ splice b at t → start_of c ≡ at
    → reply a t ≡ reply_to e (length b) (length p) n c → n' ≡ after n a → p' ≡ cond (is_print a) (splice p (n * e.per) (e.records (n + 1))) p
    → Does e c (state n b p) (state n' b' p') r
written_does {e} {c} n n' b b' p p' at t end a r s f l h i q k m =
    let text : slice_range b' r.text.start r.text.end ≡ t =
    ap (λ z. slice_range b' z r.text.end) s.1 ∙ ap (slice_range b' at) s.2 ∙ ap (λ z. slice_range z at end) h ∙ range_splice b at t end (omega arith) l in
    let from = s.1 in
    let to = s.2 in
    record {
      within = (omega arith, omega arith);
      performed = record {
        replied = ap (λ z. reply r.answer z) text ∙ ap (λ z. reply z t) s.0 ∙ q;
        counts = k ∙ ap (after n) (sym s.0);
        writes = h ∙ ap (λ z. splice b z t) (sym i) ∙ ap (splice b (start_of c)) (sym text);
        plans = m ∙ ap (λ z. cond (is_print z) (splice p (n * e.per) (e.records (n + 1))) p) (sym s.0);
      };
    }

pub print_does : {e : Edition} (most n n' : ℕ) (b b' : List ℕ) (p p' : List Record) (v : Result ℕ Fault) (r : Done) → length b ≤ most
    → Prints e (state n b p) (state n' b' p') v → Said (λ len a. a ≡ Printed len) 0 v r → Does e (Print most) (state n b p) (state n' b' p') r
print_does {e} most n n' b b' p p' (Ok len) r few h s =
    let t = e.text (n + 1) in
    let room = accepted e (length b) (length p) n h.0 in
    let bytes = room.bytes in
    let ends = h.2.ends in
    let same : length b ≡ min most (length b) = omega arith in
    written_does n n' b b' p p' 0 t len (Printed len) r s (omega arith) ends h.2.holds refl
    (ap (λ z. reply (Printed z) t) (let z : len ≡ length t = omega arith in z) ∙ ap (print_reply t) (sym h.0 ∙ ap (λ z. print_refusal e z (length p) n) same))
    h.1 h.3
print_does {e} most n n' b b' p p' (Err f) r few h s =
    let same : length b ≡ min most (length b) = omega arith in
    refused n n' b b' p p' f r s (ap (print_reply (e.text (n + 1))) (sym h.0 ∙ ap (λ z. print_refusal e z (length p) n) same)) h.1 h.2 h.3

-- a text at the start of the buffer
pub text_does : {e : Edition} {c : Call} (say : ℕ → Answer) → ((v : ℕ) → Quiet (say v)) → (t : List ℕ) (d most n : ℕ) (b b' : List ℕ) (p : List Record) (v : Result ℕ Fault) (r : Done)
    → length b ≤ most → start_of c ≡ 0 → text_reply say t d (min most (length b)) ≡ reply_to e (length b) (length p) n c
    → Writes t d b b' v → Said (λ len a. a ≡ say len) 0 v r → Does e c (state n b p) (state n b' p) r
text_does {e} say q t d most n b b' p (Ok len) r few i rules h s =
    let fits : leb (length t) (min most (length b)) ≡ true = le-leb _ _ (omega (arith, h.0)) in
    let long : len ≡ length t = omega (arith, h.1.ends) in
    written_does n n b b' p p 0 t len (say len) r s (omega (arith, h.0)) h.1.ends h.1.holds i
    (ap (λ z. reply (say z) t) long ∙ sym (cond-true _ _ _ fits) ∙ rules)
    (sym ((q len).same n)) (sym (cond-false _ _ _ (q len).unprinted))
text_does {e} say q t d most n b b' p (Err f) r few i rules h s =
    let less = h.0 in
    let short : leb (length t) (min most (length b)) ≡ false = grind (arith, nat_tests) in
    refused n n b b' p p f r s (ap (λ z. reply (Refused z) []) h.1 ∙ sym (cond-false _ _ _ short) ∙ rules) refl h.2 refl

-- ---- a pour

module _ (e : Edition) (l at : ℕ) (b b' : List ℕ) where
  abbrev ink : List ℕ
  ink = e.layer.ink l

  -- what the ink's writing answered and left
  pour_ok : (leaf : Bool) (end : ℕ) → Ok end ≡ cond leaf (end_at ink (length b) at) (Err (fault NoSuch 1 l))
      → b' ≡ cond leaf (written ink b at) b → (at + length ink ≤ length b) × (end ≡ at + length ink) × (b' ≡ splice b at ink)
  pour_ok true end h w = fits (leb (at + length ink) (length b)) (λ t. leb-true _ _ t) h w
    where
      fits : (t : Bool) → (t ≡ true → at + length ink ≤ length b) → ◌≡◌ {A = Result ℕ Fault} (Ok end) (cond t (Ok (at + length ink)) (Err (fault ShortBuffer 1 0)))
          → b' ≡ cond t (splice b at ink) b → (at + length ink ≤ length b) × (end ≡ at + length ink) × (b' ≡ splice b at ink)
      fits true f h w = (f refl, cc, w)
      fits false f h w = let z : ◌≡◌ {A = ℕ} 0 1 = cc in absurd (omega arith)
  pour_ok false end h w = let z : ◌≡◌ {A = ℕ} 0 1 = cc in absurd (omega arith)

  pour_err : (leaf : Bool) (f : Fault) → Err f ≡ cond leaf (end_at ink (length b) at) (Err (fault NoSuch 1 l))
      → b' ≡ cond leaf (written ink b at) b → b' ≡ b
  pour_err true f h w = short (leb (at + length ink) (length b)) h w
    where
      short : (t : Bool) → ◌≡◌ {A = Result ℕ Fault} (Err f) (cond t (Ok (at + length ink)) (Err (fault ShortBuffer 1 0)))
          → b' ≡ cond t (splice b at ink) b → b' ≡ b
      short true h w = let z : ◌≡◌ {A = ℕ} 0 1 = cc in absurd (omega arith)
      short false h w = w
  pour_err false f h w = w

  pub pour_does : (most n : ℕ) (p : List Record) (v : Result ℕ Fault) (r : Done) → length b ≤ most
      → v ≡ pour_at e.layer l (length b) at → b' ≡ poured e.layer l b at → Said (λ len a. a ≡ Poured len) at v r → Does e (Pour l at most) (state n b p) (state n b' p) r
  pour_does most n p (Ok end) r few h w s =
      let x = pour_ok (leb l e.layer.leaves) end h w in
      written_does n n b b' p p at ink end (Poured end) r s x.0 x.1 x.2 refl
      (ap (pour_reply ink) (h ∙ ap (λ z. pour_at e.layer l z at) (let z : length b ≡ min most (length b) = omega arith in z)))
      refl refl
  pour_does most n p (Err f) r few h w s =
      refused n n b b' p p f r s
      (ap (pour_reply ink) (h ∙ ap (λ z. pour_at e.layer l z at) (let z : length b ≡ min most (length b) = omega arith in z)))
      refl (pour_err (leb l e.layer.leaves) f h w) refl
