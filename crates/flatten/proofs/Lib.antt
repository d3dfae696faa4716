mod Making
mod Sources
mod Reading
