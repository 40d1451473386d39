-- A command of the program, as what it asks for.
use Rattle.ny_words.specs.Commands.{Render as RenderView, Task as TaskView, Command as CommandView, render, check, command_of}
use Rattle.ny_words.specs.declared.command.Render.{Render}
use Rattle.ny_words.specs.declared.command.Task.{Task}
use Rattle.ny_words.specs.declared.command.Task.TheVariants as tasks
use Rattle.ny_words.specs.declared.command.Command.{Command}

-- what is asked for, without the places where names stand
abbrev pub render_view : Render → RenderView
render_view r = record { to = r.output.now; pool = r.pool; block = r.block; rate = r.rate }

abbrev pub task_view : Task → TaskView
task_view (tasks.Render r) = render (render_view r)
task_view tasks.Check = check

abbrev pub command_view : Command → CommandView
command_view command = command_of command.input.now (task_view command.task)
