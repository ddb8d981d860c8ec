use Rattle.std.proofs.Common.{◌≡◌, ℕ, zero, suc, ◌+◌, map, max, length, refl, sym, ap, ◌∙◌, ◌∷◌, [], add-one, arith, rules}
use Rattle.std.specs.List.{fold, range_with_len}
use Rattle.std.proofs.lemmas.List.FromFn.{map-range_with_len_more}
use Rattle.std.proofs.lemmas.List.Sums.{fold-append}
use Rattle.job.specs.Books.{Book, job_book, longest, side_printed, sides}
use Rattle.job.proofs.job.Job.room.Goals as goal

longest_is : (b : Book) (n : ℕ) → fold max (longest b zero) (map (λ i. length (side_printed b (i + 1))) (range_with_len 0 n)) ≡ longest b n
longest_is b zero = refl
longest_is b (suc n) =
    let f = λ (i : ℕ). length (side_printed b (i + 1)) in
    ap (λ j. fold max (longest b zero) (map f (range_with_len 0 j))) (sym (add-one n))
    ∙ ap (fold max (longest b zero)) (map-range_with_len_more f 0 n n (omega arith))
    ∙ fold-append max (longest b zero) (map f (range_with_len 0 n)) (f n ∷ [])
    ∙ ap (λ m. max m (f n)) (longest_is b n)
    ∙ ap (λ j. max (longest b n) (length (side_printed b j))) (add-one n)

pub returns : goal.returns
returns g c =
    let b = job_book g.S.Source.meaning c.args.self.now in
    let e : c.max.result ≡ longest b zero = search rules in
    c.longest_side.ensures ∙ ap (λ n. fold max n (map (λ i. length (side_printed b (i + 1))) (range_with_len 0 (sides b)))) e ∙ longest_is b (sides b)
