-- Texts are put together from runs of lines.
use Rattle.std.proofs.Common.{◌≡◌, List, [], ◌∷◌, ◌++◌, refl, ap, sym, ◌∙◌, append_assoc}
use Rattle.lab_defs_text.specs.Words.{Bytes}
use Rattle.lab_defs_text.specs.Lines.{Line, bytes_of, text_of}

-- the text of two runs of lines
pub text_of-append : (xs ys : List Line) → text_of (xs ++ ys) ≡ text_of xs ++ text_of ys
text_of-append [] ys = refl
text_of-append (l ∷ ls) ys = ap (λ t. bytes_of l ++ 10 ∷ t) (text_of-append ls ys) ∙ sym (append_assoc (bytes_of l) (10 ∷ text_of ls) (text_of ys))

-- two runs of lines behind other bytes
pub text_both : (before : Bytes) (xs ys : List Line) → (before ++ text_of xs) ++ text_of ys ≡ before ++ text_of (xs ++ ys)
text_both before xs ys = append_assoc before (text_of xs) (text_of ys) ∙ ap (λ t. before ++ t) (sym (text_of-append xs ys))

-- a run of lines added behind another
pub text_more : (before middle after : Bytes) (xs ys : List Line) → middle ≡ before ++ text_of xs → after ≡ middle ++ text_of ys → after ≡ before ++ text_of (xs ++ ys)
text_more before middle after xs ys m a = a ∙ ap (λ t. t ++ text_of ys) m ∙ text_both before xs ys

-- a loop that adds the first lines of those that are left
pub lines_added : (before after whole : Bytes) (xs ys all : List Line) → all ≡ xs ++ ys → after ≡ before ++ text_of xs → before ++ text_of all ≡ whole → after ++ text_of ys ≡ whole
lines_added before after whole xs ys all e a w = ap (λ t. t ++ text_of ys) a ∙ text_both before xs ys ∙ ap (λ ls. before ++ text_of ls) (sym e) ∙ w
