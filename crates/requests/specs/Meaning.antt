-- What the code's requests mean. Assumes nothing.
use Rattle.std.specs.Prelude.{vec_items}
use Rattle.requests.specs.declared.asked.Action.{Action}
use Rattle.requests.specs.declared.asked.Action.TheVariants.{Set, Move, Scene}
use Rattle.requests.specs.declared.asked.DeskRequest.{DeskRequest}
use Rattle.requests.specs.declared.asked.DeskRequest.TheVariants.{Call, Book, Done}
use Rattle.requests.specs.declared.asked.Request.{Request}
use Rattle.requests.specs.declared.asked.Request.TheVariants.{Blank, Desks, Circle, OfDesk, Settle, Show, Digest}
use Rattle.requests.specs.Said.{ActionSaid, set, move, scene, DeskSaid, call, book, done, Said, blank, desks, circle, of_desk, settle, show, digest}

abbrev pub action_meant : Action → ActionSaid
action_meant (Set c l) = set c l
action_meant (Move c s) = move c s
action_meant (Scene c v) = scene c (vec_items v)

abbrev pub desk_meant : DeskRequest → DeskSaid
desk_meant (Call a) = call (action_meant a)
desk_meant (Book c) = book c
desk_meant Done = done

abbrev pub meant : Request → Said
meant Blank = blank
meant (Desks v) = desks (vec_items v)
meant (Circle v) = circle (vec_items v)
meant (OfDesk d q) = of_desk d (desk_meant q)
meant Settle = settle
meant Show = show
meant (Digest v) = digest (vec_items v)
