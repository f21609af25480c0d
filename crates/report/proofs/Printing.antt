-- Words and numbers put behind a text.
use Rattle.std.proofs.Common.{◌≡◌, ℕ, ◌+◌, ◌/◌, ◌%◌, ◌^◌, ◌<◌, ◌≤◌, List, [], ◌∷◌, ◌++◌, map, length, get_or, take, IfOk, Ok, Err, codes, decimal, Result, sym, ap, ◌∙◌, append_assoc}
use Rattle.std.proofs.lemmas.Fmt.{decimal_step}
use Rattle.std.proofs.lemmas.List.{append-nil, map_more, take_all}
use Rattle.network.specs.Words.{spaced}

-- a number written digit by digit
pub number_more :
    {E : Type 0} (r : Result (Unit {0}) E) (was front now : List ℕ) (n : ℕ) → 10 ≤ n → n < 2 ^ 64 → front ≡ was ++ decimal (n / 10) →
    IfOk r (λ _. now ≡ front ++ (48 + n % 10) ∷ []) → IfOk r (λ _. now ≡ was ++ decimal n)
number_more (Ok _) was front now n large fits before last =
    last ∙ ap (λ xs. xs ++ (48 + n % 10) ∷ []) before ∙ append_assoc was (decimal (n / 10)) ((48 + n % 10) ∷ []) ∙ ap (λ xs. was ++ xs) (sym (decimal_step n large fits))
number_more (Err _) was front now n large fits before last = tt

-- what stands behind the first word of a line
abbrev pub trail : List (List ℕ) → List ℕ
trail [] = []
trail (word ∷ words) = (codes " " ++ word) ++ trail words

spaced_trail : (word : List ℕ) (words : List (List ℕ)) → spaced word words ≡ word ++ trail words
spaced_trail word [] = sym (append-nil word)
spaced_trail word (next ∷ words) =
    ap (λ xs. word ++ (codes " " ++ xs)) (spaced_trail next words) ∙ ap (λ xs. word ++ xs) (sym (append_assoc (codes " ") next (trail words)))

trail_push : (words : List (List ℕ)) (word : List ℕ) → trail (words ++ word ∷ []) ≡ trail words ++ (codes " " ++ word)
trail_push [] word = append-nil (codes " " ++ word)
trail_push (first ∷ words) word =
    ap (λ xs. (codes " " ++ first) ++ xs) (trail_push words word) ∙ sym (append_assoc (codes " " ++ first) (trail words) (codes " " ++ word))

-- one number more
pub trail_more :
    (numbers : List ℕ) (i : ℕ) (start now gap next : List ℕ) → i < length numbers → now ≡ start ++ trail (map decimal (take i numbers)) →
    gap ≡ now ++ codes " " → next ≡ gap ++ decimal (get_or numbers i 0) → next ≡ start ++ trail (map decimal (take (i + 1) numbers))
trail_more numbers i start now gap next lt inv spaced-out pushed =
    let all : trail (map decimal (take (i + 1) numbers)) ≡ trail (map decimal (take i numbers)) ++ (codes " " ++ decimal (get_or numbers i 0)) =
    ap trail (map_more decimal numbers i 0 lt) ∙ trail_push (map decimal (take i numbers)) (decimal (get_or numbers i 0)) in
    pushed ∙ ap (λ xs. xs ++ decimal (get_or numbers i 0)) (spaced-out ∙ ap (λ xs. xs ++ codes " ") inv) ∙
    append_assoc (start ++ trail (map decimal (take i numbers))) (codes " ") (decimal (get_or numbers i 0)) ∙
    append_assoc start (trail (map decimal (take i numbers))) (codes " " ++ decimal (get_or numbers i 0)) ∙ ap (λ xs. start ++ xs) (sym all)

pub trail_all :
    (numbers : List ℕ) (i : ℕ) (was word start now : List ℕ) → length numbers ≤ i → start ≡ was ++ word → now ≡ start ++ trail (map decimal (take i numbers)) →
    now ≡ was ++ spaced word (map decimal numbers)
trail_all numbers i was word start now past begun inv =
    inv ∙ ap (λ xs. xs ++ trail (map decimal (take i numbers))) begun ∙ append_assoc was word (trail (map decimal (take i numbers))) ∙
    ap (λ ns. was ++ (word ++ trail (map decimal ns))) (take_all i numbers past) ∙ ap (λ xs. was ++ xs) (sym (spaced_trail word (map decimal numbers)))
