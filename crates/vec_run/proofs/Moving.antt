-- Known bytes that are written and read, one piece after the other.
use Rattle.std.proofs.Common.{◌≡◌, refl, sym, ap, ap₂, ◌∙◌, subst, ℕ, ◌+◌, ◌-◌, ◌<◌, ◌≤◌, length-append, List, [], ◌∷◌, ◌++◌, length, take, drop, arith, append_assoc, Option, Some, None}
use Rattle.std.proofs.Math.Seq.{take-add}
use Rattle.std.proofs.lemmas.List.{take-append-le, take_at, append-nil, drop-drop, drop_all}
use Rattle.std.proofs.Math.Seq.{take-append-add}
use Rattle.script_words.specs.declared.command.Command.{Command}
use Rattle.vec_run.specs.Exact.{AppendsFront, TakesAtMost}
use Rattle.vec_run.specs.Replies.{replies_of, replies_after, reply_at, reply_from}
use Rattle.std.specs.Io.KnownBytes.{Appends, Consumes}

pub appends_more : (a b c : Option (List ℕ)) (xs ys : List ℕ) → Appends a b xs → Appends b c ys → Appends a c (xs ++ ys)
appends_more None b c xs ys first second = tt
appends_more (Some xa) None c xs ys first second = absurd first
appends_more (Some xa) (Some xb) None xs ys first second = absurd second
appends_more (Some xa) (Some xb) (Some xc) xs ys first second = second ∙ ap (λ (l : List ℕ). l ++ ys) first ∙ append_assoc xa xs ys

pub consumes_more : (a b c : Option (List ℕ)) (xs ys : List ℕ) → Consumes a b xs → Consumes b c ys → Consumes a c (xs ++ ys)
consumes_more None b c xs ys first second = tt
consumes_more (Some xa) None c xs ys first second = absurd first
consumes_more (Some xa) (Some xb) None xs ys first second = absurd second
consumes_more (Some xa) (Some xb) (Some xc) xs ys first second = first ∙ ap (λ (l : List ℕ). xs ++ l) second ∙ sym (append_assoc xs ys xc)

-- the piece at a place is the next part of the text
pub piece_next : (done piece : ℕ) (text : List ℕ) (held held' held'' : Option (List ℕ)) → Appends held held' (take done text) → Appends held' held'' (take piece (drop done text)) → Appends held held'' (take (done + piece) text)
piece_next done piece text held held' held'' first second =
    subst (Appends held held'') (sym (take-add done piece text)) (appends_more held held' held'' (take done text) (take piece (drop done text)) first second)

-- what was taken, and then at most what is left of the most
pub takes_more : (a b c : Option (List ℕ)) (bytes : List ℕ) (most : ℕ) → length bytes ≤ most → Consumes a b bytes → TakesAtMost (most - length bytes) b c → TakesAtMost most a c
takes_more a b c bytes most few first next = (bytes ++ next.0, omega (arith, few, next.1, length-append bytes next.0), consumes_more a b c bytes next.0 first next.2)

-- ---- a front of all that is to be written

appends_nothing : (a : Option (List ℕ)) → Appends a a []
appends_nothing None = tt
appends_nothing (Some xs) = sym (append-nil xs)

-- what was written before, and a front of what is gathered
pub front_of_all : (a b c : Option (List ℕ)) (written gathered rest all : List ℕ) → all ≡ written ++ (gathered ++ rest) → Appends a b written → AppendsFront b c gathered → AppendsFront a c all
front_of_all a b c written gathered rest all is first front =
    let count = front.0 in
    let size : length all ≡ length written + length (gathered ++ rest) = ap (λ (l : List ℕ). length l) is ∙ length-append written (gathered ++ rest) in
    let cut : take (length written + count) all ≡ written ++ take count gathered =
    ap (λ (l : List ℕ). take (length written + count) l) is ∙ take-append-add written (gathered ++ rest) count
    ∙ ap (λ (l : List ℕ). written ++ l) (take-append-le count gathered rest front.1) in
    (length written + count, omega (arith, size, front.1, length-append gathered rest), subst (Appends a c) (sym cut) (appends_more a b c written (take count gathered) first front.2))

-- what was written before, where nothing more is
pub front_before : (a b : Option (List ℕ)) (written rest all : List ℕ) → all ≡ written ++ rest → Appends a b written → AppendsFront a b all
front_before a b written rest all is first =
    let size : length all ≡ length written + length rest = ap (λ (l : List ℕ). length l) is ∙ length-append written rest in
    let cut : take (length written) all ≡ written = ap (λ (l : List ℕ). take (length written) l) is ∙ take_at written rest (length written) refl in
    (length written, omega (arith, size), subst (Appends a b) (sym cut) first)

-- ---- replies, one after the other

replies_cut : (above commands : List Command) → replies_after above commands ≡ reply_from above commands ++ replies_after (above ++ take 1 commands) (drop 1 commands)
replies_cut above [] = refl
replies_cut above (c ∷ commands) = refl

-- at the start
pub replies_start : (commands : List Command) (gathered : List ℕ) → gathered ≡ [] → replies_of commands ≡ [] ++ (gathered ++ replies_after (take 0 commands) (drop 0 commands))
replies_start commands gathered none = ap (λ (l : List ℕ). l ++ replies_after [] commands) (sym none)

-- one reply more is gathered
pub replies_gathered : (commands : List Command) (k : ℕ) (written gathered new : List ℕ) → k < length commands → replies_of commands ≡ written ++ (gathered ++ replies_after (take k commands) (drop k commands)) → new ≡ gathered ++ reply_at commands k
    → replies_of commands ≡ written ++ (new ++ replies_after (take (k + 1) commands) (drop (k + 1) commands))
replies_gathered commands k written gathered new within so_far more =
    let after : replies_after (take k commands) (drop k commands) ≡ reply_at commands k ++ replies_after (take (k + 1) commands) (drop (k + 1) commands) =
    replies_cut (take k commands) (drop k commands)
    ∙ ap₂ (λ (us vs : List Command). reply_at commands k ++ replies_after us vs) (sym (take-add k 1 commands)) (drop-drop 1 k commands) in
    so_far
    ∙ ap (λ (l : List ℕ). written ++ (gathered ++ l)) after
    ∙ ap (λ (l : List ℕ). written ++ l) (sym (append_assoc gathered (reply_at commands k) (replies_after (take (k + 1) commands) (drop (k + 1) commands))))
    ∙ ap (λ (l : List ℕ). written ++ (l ++ replies_after (take (k + 1) commands) (drop (k + 1) commands))) (sym more)

-- some of what is gathered is written
pub replies_moved : (written sent gathered left rest all : List ℕ) → all ≡ written ++ (gathered ++ rest) → gathered ≡ sent ++ left → all ≡ (written ++ sent) ++ (left ++ rest)
replies_moved written sent gathered left rest all is parts =
    is ∙ ap (λ (l : List ℕ). written ++ (l ++ rest)) parts
    ∙ ap (λ (l : List ℕ). written ++ l) (append_assoc sent left rest)
    ∙ sym (append_assoc written sent (left ++ rest))

-- at the end all is written
pub replies_end : (commands : List Command) (k : ℕ) (written sent gathered left : List ℕ) → length commands ≤ k → replies_of commands ≡ written ++ (gathered ++ replies_after (take k commands) (drop k commands)) → gathered ≡ sent ++ left → left ≡ []
    → replies_of commands ≡ written ++ sent
replies_end commands k written sent gathered left past is parts none =
    let nothing : drop k commands ≡ [] = drop_all k commands past in
    let rest : replies_after (take k commands) (drop k commands) ≡ [] = ap (λ (l : List Command). replies_after (take k commands) l) nothing in
    is ∙ ap₂ (λ (u v : List ℕ). written ++ (u ++ v)) (parts ∙ ap (λ (l : List ℕ). sent ++ l) none ∙ append-nil sent) rest ∙ ap (λ (l : List ℕ). written ++ l) (append-nil sent)
