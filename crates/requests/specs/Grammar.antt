-- What the words of a line say. Assumes nothing.
use Rattle.std.specs.Prelude.{ℕ, List, [], ◌∷◌, Some, None, codes, Option}
use Rattle.text.specs.Numeral.{number_of}
use Rattle.reading.specs.Answer.{Answer, reads, cannot, ◌then◌, unknown_word, missing_word}
use Rattle.requests.specs.Values.{if_named, a_number, a_step, the_end, numbers_said, bytes_said}
use Rattle.requests.specs.Said.{ActionSaid, set, move, scene, DeskSaid, call, book, done, Said, blank, desks, circle, of_desk, settle, show, digest}

-- `C L` behind `call set`
abbrev pub set_said : List (List ℕ) → Answer ActionSaid
set_said ws = a_number ws then (λ c. a_number c.1 then (λ l. the_end l.1 then (λ _. reads (set c.0 l.0))))

-- `C S` behind `call move`
abbrev pub move_said : List (List ℕ) → Answer ActionSaid
move_said ws = a_number ws then (λ c. a_step c.1 then (λ s. the_end s.1 then (λ _. reads (move c.0 s.0))))

-- `C L..` behind `call scene`
abbrev pub scene_said : List (List ℕ) → Answer ActionSaid
scene_said ws = a_number ws then (λ c. numbers_said c.1 then (λ ls. reads (scene c.0 ls)))

-- what stands behind `call`
abbrev pub action_said : List (List ℕ) → Answer ActionSaid
action_said [] = cannot missing_word
action_said (w ∷ ws) =
    if_named w (codes "set") (set_said ws)
    (if_named w (codes "move") (move_said ws)
    (if_named w (codes "scene") (scene_said ws)
    (cannot (unknown_word w))))

-- `C` behind `book`
abbrev pub book_said : List (List ℕ) → Answer DeskSaid
book_said ws = a_number ws then (λ c. the_end c.1 then (λ _. reads (book c.0)))

-- what one desk is asked
abbrev pub desk_said : List (List ℕ) → Answer DeskSaid
desk_said [] = cannot missing_word
desk_said (w ∷ ws) =
    if_named w (codes "call") (action_said ws then (λ a. reads (call a)))
    (if_named w (codes "book") (book_said ws)
    (if_named w (codes "done") (the_end ws then (λ _. reads done))
    (cannot (unknown_word w))))

-- a word that is none of the show's is the number of a desk
abbrev pub desk_line : List ℕ → Option ℕ → List (List ℕ) → Answer Said
desk_line w None ws = cannot (unknown_word w)
desk_line w (Some d) ws = desk_said ws then (λ q. reads (of_desk d q))

-- what a line says by its first word and the words behind it
abbrev pub word_said : List ℕ → List (List ℕ) → Answer Said
word_said w ws =
    if_named w (codes "desks") (numbers_said ws then (λ ds. reads (desks ds)))
    (if_named w (codes "circle") (numbers_said ws then (λ ds. reads (circle ds)))
    (if_named w (codes "settle") (the_end ws then (λ _. reads settle))
    (if_named w (codes "show") (the_end ws then (λ _. reads show))
    (if_named w (codes "digest") (bytes_said ws then (λ bs. reads (digest bs)))
    (desk_line w (number_of w) ws)))))

-- what a line says by its words
abbrev pub said : List (List ℕ) → Answer Said
said [] = reads blank
said (w ∷ ws) = word_said w ws
