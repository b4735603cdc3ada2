-- An edit, whose rows and new bytes stand one behind the other.
use Rattle.replay.specs.declared.call.Reply.{Reply}
use Rattle.std.specs.Prelude.{None, Option, Some}
use Prim.Native.Nat.{ℕ, ◌-◌, ◌≤◌, ◌<◌}
use native.Mathlib.Omega.{arith}
use mathlib.Core.Path.{◌≡◌, ◌∙◌}
use mathlib.Core.List.{List}
use borrow.Author.Tests.{le-leb, lt-leb}
use lib.ListN.{length, take, drop}
use Rattle.edit.specs.Edits.{editing}
use Rattle.text.proofs.Steps.{rest_of}
use Rattle.lumbrisse.specs.Promises.{TablePromise}
use Rattle.lumbrisse.specs.declared.reply as box
use Rattle.replay.specs.declared.case.Case.{Case}
use Rattle.replay.specs.Replies.{of_reply, edited, edited_left}

module _ (c : Case) (s u t : List ℕ) where
  pub edit_unknown : length u < c.d → None ≡ edited c s u t
  edit_unknown h = rw (lt-leb c.d (length u) h)

  pub left_unknown_edit : length u < c.d → t ≡ edited_left c s u t
  left_unknown_edit h = rw (lt-leb c.d (length u) h)

  module _ (h : c.d ≤ length u) (r : box.Reply.Reply) (w : List ℕ)
      (p : TablePromise (editing s (take (c.d - 0) (drop 0 u)) c.c c.a c.b (take (length u - c.d) (drop c.d u))) t r w) where
    pub edit_told : (o : Option Reply) → o ≡ Some (of_reply r) → o ≡ edited c s u t
    edit_told o e = let z : c.d - 0 ≡ c.d = omega arith in e ∙ rw (le-leb c.d (length u) h, p.reply, rest_of u c.d, z)

    pub edit_left : w ≡ edited_left c s u t
    edit_left = let z : c.d - 0 ≡ c.d = omega arith in p.rows ∙ rw (le-leb c.d (length u) h, rest_of u c.d, z)

pub ruleset change_laws = (edit_unknown, left_unknown_edit, edit_told, edit_left)
