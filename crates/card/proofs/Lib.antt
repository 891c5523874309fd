mod Handing
mod Reading
mod Texts
